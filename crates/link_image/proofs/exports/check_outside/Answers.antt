use Rattle.std.proofs.Common.{List, map, ap, ◌∙◌, sym, arith}
use Rattle.std.proofs.lemmas.Result.{err_from_is_err_and}
use Rattle.std.proofs.lemmas.List.{take_all}
use Rattle.link_base.specs.Refusals.{first_standing}
use Rattle.export_tables.specs.declared.row.ExportRow.{ExportRow}
use Rattle.link_fields.proofs.StandingLemmas.{standing_more, standing_found}
use Rattle.link_image.specs.ExportFaults.{inside_of}
use Rattle.link_image.proofs.exports.check_outside.Goals as goal

pub returns-in_err-check_row-clause-refused : goal.returns-in_err-check_row-clause-refused
returns-in_err-check_row-clause-refused c =
    let given = err_from_is_err_and c.from_residual.result c.from_residual.ensures.1 in
    rw (given.1, given.2)
    (standing_found (inside_of c.args.rva c.args.size) c.args.rows.now c.loop-row.row-index c.row-item.result c.in_err-check_row.field-0.0 (omega arith) c.row-item.is c.loop-row.invariant c.in_err-check_row.ensures.refused)

pub loop-row-preserved : goal.loop-row-preserved
loop-row-preserved c =
    standing_more (inside_of c.args.rva c.args.size) c.args.rows.now c.loop-row.row-index c.row-item.result (omega arith) c.row-item.is c.loop-row.invariant c.in_ok-check_row.ensures.accepted

pub returns-clause-accepted : goal.returns-clause-accepted
returns-clause-accepted c =
    ap (λ (rows : List ExportRow). first_standing (map (inside_of c.args.rva c.args.size) rows)) (sym (take_all c.loop-row.row-index c.args.rows.now (omega arith))) ∙ c.loop-row.invariant
