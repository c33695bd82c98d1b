use Rattle.std.proofs.Common.{arith, sym}
use Rattle.coff_object.proofs.LoopLemmas.{section_start, section_more, section_found, section_none}
use Rattle.coff_object.proofs.section_fault.first_section.Goals as goal

pub loop-index-init : goal.loop-index-init
loop-index-init g c = λ test decides. section_start c.args.file.now test

pub returns-then-fails : goal.returns-then-fails
returns-then-fails g c =
    λ test decides. sym (section_found c.args.file.now c.section_header-header.result test c.loop-index.index c.fails.result (omega (arith, c.section_count-index-end.ensures)) (c.loop-index.invariant test decides) c.section_header-header.ensures (decides _ _ c.fails.ensures) c.if-fails.true)

pub loop-index-preserved : goal.loop-index-preserved
loop-index-preserved g c =
    λ test decides. section_more c.args.file.now c.section_header-header.result test c.loop-index.index c.fails.result (c.loop-index.invariant test decides) c.section_header-header.ensures (decides _ _ c.fails.ensures) c.if-fails.false

pub returns : goal.returns
returns g c =
    λ test decides. sym (section_none c.args.file.now test c.loop-index.index (omega (arith, c.section_count-index-end.ensures)) (c.loop-index.invariant test decides))
