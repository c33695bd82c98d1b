use Rattle.std.proofs.Common.{◌+◌, ◌∷◌, [], List, drop, sym, ap, ◌∙◌}
use Rattle.section_group.specs.Uniqueness.{rows_of}
use Rattle.image_writer.specs.declared.headers.SectionHeader.{SectionHeader}
use Rattle.image_writer.specs.WrittenImage.{section_rows}
use Rattle.image_writer.proofs.StepLemmas.{kept, rows_step}
use Rattle.image_writer.proofs.section_table.table_of.Goals as goal

pub loop-i-preserved : goal.loop-i-preserved
loop-i-preserved c =
    let sections = c.args.sections.now in
    let placed = c.args.placed.now in
    let i = c.loop-i.i in
    let rest : List SectionHeader = section_rows (drop (i + 1) (rows_of sections)) (drop (i + 1) placed) in
    let whole = section_rows (drop i (rows_of sections)) (drop i placed) in
    kept c.push.new.self.items c.loop-i.rows.items (c.row.result ∷ []) rest whole (section_rows (rows_of sections) placed) c.in_ok-push.ensures.items c.loop-i.invariant
    (rows_step sections placed i c.index-sections-i.result c.requires c.loop-i-test.true c.index-sections-i.is ∙ ap (λ (row : SectionHeader). row ∷ rest) (sym c.row.ensures))
