use Rattle.std.proofs.Common.{◌≡◌, ◌+◌, true, false, cond, ◌||◌, Bool, get_or, nat_lt, subst, sym, ap, ◌∙◌, arith}
use Rattle.std.proofs.lemmas.Bool.{cond_below, cond_above}
use Rattle.std.proofs.lemmas.List.Folds.{list_any_more}
use Rattle.comdat.specs.Choice.{no_candidate, size_at, is_largest}
use Rattle.comdat.proofs.GreatestLemmas.{IsGreatestOf, greatest_first, greatest_more}
use Rattle.comdat.proofs.ChoiceLemmas.{first_goes_on, first_is_largest, conflict_here, goes_on_past, chosen_at_end}
use Rattle.comdat.proofs.choice.choose.Goals as goal
use Rattle.comdat.proofs.choice.choose.Goals.{then-candidate-list, else-candidate-list, then-by_size, else-by_size}

pub loop-place-init : goal.loop-place-init
loop-place-init c = record {
  goes_on = first_goes_on c.args.list.now c.requires;
  by_size = c.is_largest-by_size.ensures ∙ first_is_largest c.args.list.now c.requires;
  greatest = greatest_first c.args.list.now;
}

pub returns-then-not-agrees-clause-conflict : goal.returns-then-not-agrees-clause-conflict
returns-then-not-agrees-clause-conflict c =
    conflict_here c.args.list.now c.loop-place.place c.agrees.result (omega arith) c.loop-place-test.true c.loop-place.invariant.goes_on c.agrees.ensures c.if-not-agrees.true

pub loop-place-preserved : goal.loop-place-preserved
loop-place-preserved c =
    let list = c.args.list.now in
    let place = c.loop-place.place in
    let greatest = c.loop-place.greatest in
    let before = c.loop-place.invariant in
    let by_size : c.if-by_size.by_size ≡ (c.loop-place.by_size || is_largest (get_or list place no_candidate)) =
    elim c.if-by_size.branch [
      | then-by_size w ↦ w.by_size-is ∙ w.if-by_size.true ∙ ap (λ (b : Bool). b || is_largest (get_or list place no_candidate)) (sym w.if-by_size.true)
      | else-by_size w ↦ w.by_size-is ∙ w.is_largest-by_size-else-by_size.ensures ∙ ap (λ (b : Bool). b || is_largest (get_or list place no_candidate)) (sym w.if-by_size.false)
    ] in
    let moved : c.if-candidate-list.greatest ≡ cond (nat_lt (size_at list greatest) (size_at list place)) place greatest =
    elim c.if-candidate-list.branch [
      | then-candidate-list w ↦ w.greatest-is ∙ cond_below (size_at list greatest) (size_at list place) place greatest w.if-candidate-list.true
      | else-candidate-list w ↦ cond_above (size_at list greatest) (size_at list place) place greatest c.if-candidate-list.greatest w.if-candidate-list.false w.greatest-is
    ] in
    record {
      goes_on = goes_on_past list place c.agrees.result (omega arith) c.loop-place-test.true before.goes_on c.agrees.ensures c.if-not-agrees.false;
      by_size = by_size ∙ ap (λ (b : Bool). b || is_largest (get_or list place no_candidate)) before.by_size ∙ sym (list_any_more is_largest list place no_candidate c.loop-place-test.true);
      greatest = subst (IsGreatestOf list (place + 1)) (sym moved) (greatest_more list place greatest before.greatest);
    }

pub returns-then-by_size-2-clause-chosen : goal.returns-then-by_size-2-clause-chosen
returns-then-by_size-2-clause-chosen c =
    let before = c.loop-place.invariant in
    chosen_at_end c.args.list.now c.loop-place.place c.loop-place.greatest c.loop-place.by_size true c.requires (omega arith) before.goes_on before.by_size before.greatest c.if-by_size-2.true

pub returns-else-by_size-2-clause-chosen : goal.returns-else-by_size-2-clause-chosen
returns-else-by_size-2-clause-chosen c =
    let before = c.loop-place.invariant in
    chosen_at_end c.args.list.now c.loop-place.place c.loop-place.greatest c.loop-place.by_size false c.requires (omega arith) before.goes_on before.by_size before.greatest c.if-by_size-2.false
