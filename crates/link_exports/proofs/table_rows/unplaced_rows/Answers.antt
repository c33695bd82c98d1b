use Rattle.std.proofs.Common.{List, map, ap, ◌∙◌, arith}
use Rattle.std.proofs.lemmas.List.{take_all}
use Rattle.directives.specs.declared.item.Export.{Export}
use Rattle.link_exports.specs.Exports.{unplaced_row}
use Rattle.link_exports.proofs.table_rows.unplaced_rows.Goals as goal

pub returns : goal.returns
returns c =
    c.loop-row.invariant ∙ ap (λ (rows : List Export). map unplaced_row rows) (take_all c.loop-row.row-index c.args.rows.now (omega arith))
