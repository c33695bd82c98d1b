use Rattle.std.proofs.Common.{List, [], ◌∷◌, ◌++◌, Option, map, take, sym, ap, ◌∙◌, subst, arith}
use Rattle.std.proofs.lemmas.Result.{err_from_is_err_and}
use Rattle.std.proofs.lemmas.List.{take_more, map-append}
use Rattle.link_base.specs.Refusals.{RefusesFor, first_standing}
use Rattle.link_base.specs.declared.stop.Refusal.TheVariants as refusal
use Rattle.directives.specs.declared.item.Export.{Export}
use Rattle.relocate.specs.declared.fix.Target.{Target}
use Rattle.link_exports.specs.Exports.{ExportsView}
use Rattle.link_fields.specs.ExportTargets.{export_target, export_fault}
use Rattle.link_fields.proofs.StandingLemmas.{standing_more, refuses_standing}
use Rattle.link_fields.proofs.export_targets.export_targets.Goals as goal

pub returns-in_err-target-clause-refused : goal.returns-in_err-target-clause-refused
returns-in_err-target-clause-refused c =
    let link = c.args.names.now in
    let fault = refusal.Fault c.in_err-target.field-0.0 in
    let given = err_from_is_err_and c.from_residual.result c.from_residual.ensures.1 in
    rw (given.1, given.2)
    (subst (λ (rows : List Export). RefusesFor (first_standing (map (export_fault link) rows)) fault) (c.rows-rows.ensures ∙ ap (λ (e : ExportsView). e.rows) c.exports.ensures)
    (refuses_standing (export_fault link) c.rows-rows.result.now c.loop-row.row-index c.row-item.result fault (omega arith) c.row-item.is c.loop-row.invariant.none c.in_err-target.ensures.refused))

pub loop-row-preserved : goal.loop-row-preserved
loop-row-preserved c =
    let link = c.args.names.now in
    let rows = c.rows-rows.result.now in
    let k = c.loop-row.row-index in
    let row = c.row-item.result in
    record {
      targets =
          c.in_ok-push.ensures
          ∙ ap (λ (targets : List (Option Target)). targets ++ c.in_ok-target.target ∷ []) c.loop-row.invariant.targets
          ∙ ap (λ (target : Option Target). map (export_target link) (take k rows) ++ target ∷ []) c.in_ok-target.ensures.target
          ∙ sym (ap (map (export_target link)) (take_more rows k row (omega arith) ∙ ap (λ (r : Export). take k rows ++ r ∷ []) (sym c.row-item.is)) ∙ map-append (export_target link) (take k rows) (row ∷ []));
      none = standing_more (export_fault link) rows k row (omega arith) c.row-item.is c.loop-row.invariant.none c.in_ok-target.ensures.accepted;
    }
