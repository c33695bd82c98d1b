use Rattle.std.proofs.Common.{length, refl, sym, ◌∙◌, arith}
use Rattle.link_base.specs.Bytes.{first_below}
use Rattle.link_base.proofs.CallerLemmas.{first_below-more, first_below-found}
use Rattle.link_debug.specs.LinkDebug.{has_rva}
use Rattle.link_debug.proofs.debug.section_with.Goals as goal

pub loop-i-init : goal.loop-i-init
unfolding first_below
loop-i-init c = refl

pub returns-then-has_rva-clause-index : goal.returns-then-has_rva-clause-index
returns-then-has_rva-clause-index c =
    let sections = c.args.sections.now in
    let i = c.loop-i.i in
    let tested = sym (c.has_rva.ensures sections i refl) ∙ c.if-has_rva.true in
    sym (first_below-found i (length sections) (has_rva sections c.args.rva) (omega arith) c.loop-i.invariant tested)

pub loop-i-preserved : goal.loop-i-preserved
loop-i-preserved c =
    let sections = c.args.sections.now in
    let i = c.loop-i.i in
    let tested = sym (c.has_rva.ensures sections i refl) ∙ c.if-has_rva.false in
    first_below-more i (has_rva sections c.args.rva) c.loop-i.invariant tested
