use Rattle.std.proofs.Common.{List, sym, ◌∙◌, subst, arith}
use Rattle.export_tables.specs.declared.row.ExportRow.{ExportRow}
use Rattle.export_tables.specs.ExportTable.{AreNumbered}
use Rattle.export_tables.proofs.AssignedLemmas.{ordinals_differ}
use Rattle.link_exports.proofs.NumberedLemmas.{rows_numbered}
use Rattle.link_exports.proofs.exports.size_of.Goals as goal

pub length-requires-clause-rows : goal.length-requires-clause-rows
length-requires-clause-rows c =
    subst (λ (rows : List ExportRow). AreNumbered rows c.args.ordinals.now) (sym (c.deref.ensures.value ∙ c.in_ok-unplaced.ensures))
    (rows_numbered c.args.rows.now c.args.ordinals.now c.requires.told (omega arith) c.requires.ordinals (λ i j lt within. ordinals_differ c.args.rows.now i j c.requires.none lt within))

pub returns-clause-numbered : goal.returns-clause-numbered
returns-clause-numbered c =
    rows_numbered c.args.rows.now c.args.ordinals.now c.requires.told (omega arith) c.requires.ordinals (λ i j lt within. ordinals_differ c.args.rows.now i j c.requires.none lt within)
