use Rattle.std.proofs.Common.{[], ◌+◌, List, ap, ◌∙◌, arith}
use Rattle.std.proofs.lemmas.List.{length-map}
use Rattle.section_group.specs.Uniqueness.{SectionRow, row_of, rows_of}
use Rattle.debug_rows.specs.Contributions.{section_contributions, contributions_of}
use Rattle.debug_rows.proofs.ListLemmas.{mapped_read, mapped_whole, numbered_grows}
use Rattle.debug_rows.proofs.contribution_rows.contributions.Goals as goal

pub loop-index-preserved : goal.loop-index-preserved
loop-index-preserved c =
    let sections = c.args.sections.now in
    let section = c.index-sections-index.result in
    let index = c.loop-index.index in
    let layout = c.args.layout.now in
    numbered_grows (section_contributions c.args.modules.now c.args.pieces.now layout.sections.items layout.pieces.items) 1 index (index + 1) (rows_of sections) (row_of section) [] c.loop-index.list.items c.push_section.new.list.items (omega (arith, length-map sections row_of)) (omega arith) (mapped_read row_of sections index section c.index-sections-index.is) c.loop-index.invariant c.in_ok-push_section.ensures

pub returns : goal.returns
returns c =
    let layout = c.args.layout.now in
    c.loop-index.invariant
    ∙ ap (λ (rows : List SectionRow). contributions_of c.args.modules.now c.args.pieces.now layout.sections.items layout.pieces.items rows) (mapped_whole row_of c.args.sections.now c.loop-index.index (omega arith))
