use Rattle.std.proofs.Common.{ℕ, List, [], ◌∷◌, None, refl, ap, ◌∙◌, arith}
use Rattle.std.proofs.lemmas.Result.{err_from_is_err_and}
use Rattle.link_pieces.specs.LocalSlots.{with_meant}
use Rattle.link_plan.specs.References.{asked_fault}
use Rattle.link_fields.proofs.StandingLemmas.{standing_more, refuses_standing}
use Rattle.link_plan.proofs.ReferenceLemmas.{meant_next}
use Rattle.link_plan.proofs.references.check_names.Goals as goal

pub loop-name-init : goal.loop-name-init
loop-name-init c = record { none = refl; noted = refl }

pub returns-in_err-check_name-clause-refused : goal.returns-in_err-check_name-clause-refused
returns-in_err-check_name-clause-refused c =
    let given = err_from_is_err_and c.from_residual.result c.from_residual.ensures.1 in
    rw (given.1, given.2)
    (refuses_standing (asked_fault c.args.names.now None) c.args.asked.now c.loop-name.name-index c.name-item.result _ (omega arith) c.name-item.is c.loop-name.invariant.none c.in_err-check_name.ensures.refused)

pub loop-name-preserved : goal.loop-name-preserved
loop-name-preserved c =
    let link = c.args.names.now in
    record {
      none = standing_more (asked_fault link None) c.args.asked.now c.loop-name.name-index c.name-item.result (omega arith) c.name-item.is c.loop-name.invariant.none c.in_ok-check_name.ensures.accepted;
      noted =
          c.in_ok-check_name.ensures.slots
          ∙ ap (λ (before : List (List ℕ)). with_meant link before (c.name-item.result ∷ [])) c.loop-name.invariant.noted
          ∙ meant_next link c.args.slots.now.keys (λ (names : List (List ℕ)). names) (λ xs ys. refl) c.args.asked.now c.loop-name.name-index c.name-item.result (omega arith) c.name-item.is;
    }
