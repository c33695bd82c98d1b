use Rattle.std.proofs.Common.{◌≡◌, ℕ, List, [], ◌∷◌, None, map, refl, ap, ◌∙◌, subst, arith}
use Rattle.std.specs.Prelude.{filter_map}
use Rattle.std.proofs.lemmas.Result.{err_from_is_err_and}
use Rattle.std.proofs.lemmas.List.{take_all}
use Rattle.directives.specs.Said.{said}
use Rattle.directives.specs.declared.item.Directive.{Directive}
use Rattle.link_base.specs.Refusals.{first_standing}
use Rattle.symbol_names.specs.References.{name_said}
use Rattle.link_pieces.specs.LocalSlots.{with_meant}
use Rattle.link_fields.proofs.StandingLemmas.{standing_more, refuses_standing}
use Rattle.link_plan.proofs.ReferenceLemmas.{directive_fault, directives_fault, meant_next, asked_append}
use Rattle.link_plan.proofs.references.check_directives.Goals as goal

pub loop-directive-init : goal.loop-directive-init
loop-directive-init c = record { none = refl; noted = refl }

pub returns-in_err-check_directive-clause-refused :
    goal.returns-in_err-check_directive-clause-refused
returns-in_err-check_directive-clause-refused c =
    let given = err_from_is_err_and c.from_residual.result c.from_residual.ensures.1 in
    rw (given.1, given.2, directives_fault c.args.names.now c.args.position c.args.directives.now)
    (refuses_standing (directive_fault c.args.names.now c.args.position) c.args.directives.now c.loop-directive.directive-index c.directive-item.result _ (omega arith) c.directive-item.is c.loop-directive.invariant.none c.in_err-check_directive.ensures.refused)

pub loop-directive-preserved : goal.loop-directive-preserved
loop-directive-preserved c =
    let link = c.args.names.now in
    let directives = c.args.directives.now in
    let k = c.loop-directive.directive-index in
    let directive = c.directive-item.result in
    record {
      none = standing_more (directive_fault link c.args.position) directives k directive (omega arith) c.directive-item.is c.loop-directive.invariant.none c.in_ok-check_directive.ensures.accepted;
      noted =
          c.in_ok-check_directive.ensures.slots
          ∙ ap (λ (before : List (List ℕ)). with_meant link before (filter_map name_said (said directive ∷ []))) c.loop-directive.invariant.noted
          ∙ meant_next link c.args.slots.now.keys (λ (ds : List Directive). filter_map name_said (map said ds)) asked_append directives k directive (omega arith) c.directive-item.is;
    }

pub returns-clause-accepted : goal.returns-clause-accepted
returns-clause-accepted c =
    directives_fault c.args.names.now c.args.position c.args.directives.now
    ∙ subst (λ (ds : List Directive). first_standing (map (directive_fault c.args.names.now c.args.position) ds) ≡ None) (take_all c.loop-directive.directive-index c.args.directives.now (omega arith)) c.loop-directive.invariant.none
