use Rattle.std.proofs.Common.{◌≡◌, ◌<◌, ◌+◌, ℕ, Bool, Option, List, length, get_or, drop, ◌-◌, Vec, Bor, refl, sym, ap, subst, ◌∙◌, arith, rules}
use Rattle.std.specs.declared.alloc.Global.{Global}
use Rattle.std.proofs.lemmas.List.{take_all, get_or-map, length-drop, length-map}
use Rattle.module_view.specs.declared.comdat_choice.ComdatChoice.{ComdatChoice}
use Rattle.comdat.specs.declared.chosen_by.ChosenBy.{ChosenBy}
use Rattle.comdat.specs.declared.chosen_by.ChosenBy.TheVariants as by
use Rattle.comdat.specs.ChosenBy.{by_choice, by_choices}
use Rattle.comdat.proofs.RowLemmas.{RowSoFar, row_none, row_group, row_other, row_all, has_next}
use Rattle.comdat.proofs.rows.own_flags.Goals as goal
use Rattle.comdat.proofs.rows.own_flags.Goals.{then-is_group+in_ok-push, else-is_group+in_ok-push-2}

in_row : (choices : List (Option ComdatChoice)) (k : ℕ) → k < length choices → k < length (by_choices choices)
in_row choices k lt = omega (arith, lt, length-map choices by_choice)

-- the section at a place
here : (choices : List (Option ComdatChoice)) (k : ℕ) (d : Option ComdatChoice) (said : ChosenBy) → k < length choices → said ≡ by_choice (get_or choices k d) → said ≡ get_or (by_choices choices) k by.Itself
here choices k d said lt is = is ∙ sym (get_or-map by_choice choices k d by.Itself lt)

pub loop-choice-init : goal.loop-choice-init
loop-choice-init c = row_none (by_choices c.args.choices.now) c.args.selected.now c.in_ok-flags.flags.items c.requires c.in_ok-flags.ensures.items

pub bounds-rest-0 : goal.bounds-rest-0
bounds-rest-0 c =
    let some : 0 < length c.loop-choice.rest.now = has_next (by_choices c.args.choices.now) c.args.selected.now c.loop-choice.rest.now c.loop-choice.flags.items c.loop-choice.choice-index _ c.loop-choice.invariant (in_row c.args.choices.now c.loop-choice.choice-index c.loop-choice-test.true) (here c.args.choices.now c.loop-choice.choice-index _ _ c.loop-choice-test.true c.of-by.ensures) (sym c.is_group.ensures ∙ c.if-is_group.true) in
    search rules

pub slice_bounds-rest-count : goal.slice_bounds-rest-count
slice_bounds-rest-count c =
    let some : 0 < length c.loop-choice.rest.now = has_next (by_choices c.args.choices.now) c.args.selected.now c.loop-choice.rest.now c.loop-choice.flags.items c.loop-choice.choice-index _ c.loop-choice.invariant (in_row c.args.choices.now c.loop-choice.choice-index c.loop-choice-test.true) (here c.args.choices.now c.loop-choice.choice-index _ _ c.loop-choice-test.true c.of-by.ensures) (sym c.is_group.ensures ∙ c.if-is_group.true) in
    omega (arith, some)

pub slice_bounds-rest-start : goal.slice_bounds-rest-start
slice_bounds-rest-start c =
    let some : 0 < length c.loop-choice.rest.now = has_next (by_choices c.args.choices.now) c.args.selected.now c.loop-choice.rest.now c.loop-choice.flags.items c.loop-choice.choice-index _ c.loop-choice.invariant (in_row c.args.choices.now c.loop-choice.choice-index c.loop-choice-test.true) (here c.args.choices.now c.loop-choice.choice-index _ _ c.loop-choice-test.true c.of-by.ensures) (sym c.is_group.ensures ∙ c.if-is_group.true) in
    search rules

pub loop-choice-preserved : goal.loop-choice-preserved
loop-choice-preserved c =
    let row = (by_choices c.args.choices.now) in
    let selected = c.args.selected.now in
    let done = c.loop-choice.choice-index in
    let rest = c.loop-choice.rest.now in
    let flags = c.loop-choice.flags.items in
    let before = c.loop-choice.invariant in
    let lt = in_row c.args.choices.now done c.loop-choice-test.true in
    let at = here c.args.choices.now done _ _ c.loop-choice-test.true c.of-by.ensures in
    elim c.if-is_group.branch [
      | then-is_group+in_ok-push w ↦
          row_group row selected rest c.if-is_group.rest.now flags c.if-is_group.flags.items _ done _ before lt at (sym c.is_group.ensures ∙ w.if-is_group.true) refl (ap (λ (r : Bor (List Bool)). r.now) w.rest-is ∙ take_all (length rest - 1) (drop 1 rest) (omega (arith, length-drop 1 rest))) (ap (λ (v : Vec Bool Global). v.items) w.flags-is ∙ w.in_ok-push.ensures.items)
      | else-is_group+in_ok-push-2 w ↦
          subst (λ (r : List Bool). RowSoFar row selected r c.if-is_group.flags.items (done + 1)) (sym (ap (λ (r : Bor (List Bool)). r.now) w.rest-is))
          (row_other row selected rest flags c.if-is_group.flags.items w.is_itself.result done _ before lt at (sym c.is_group.ensures ∙ w.if-is_group.false) w.is_itself.ensures (ap (λ (v : Vec Bool Global). v.items) w.flags-is ∙ w.in_ok-push-2.ensures.items))
    ]

pub returns-clause-flags : goal.returns-clause-flags
returns-clause-flags c = λ bytes chosen later is told.
    row_all (by_choices c.args.choices.now) c.args.selected.now c.loop-choice.rest.now c.loop-choice.flags.items c.loop-choice.choice-index bytes chosen later c.loop-choice.invariant (omega (arith, length-map c.args.choices.now by_choice)) is told
