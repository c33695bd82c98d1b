use Rattle.std.proofs.Common.{◌≡◌, ◌<◌, ◌≤◌, ◌+◌, ◌-◌, ℕ, Bool, false, true, Option, None, List, length, get_or, set, drop, Vec, Bor, sym, ap, subst, ◌∙◌, arith, rules}
use Rattle.std.specs.declared.alloc.Global.{Global}
use Rattle.std.proofs.lemmas.List.{take_all, get_or-map, get_or_read, length-drop, length-map, length-replicate}
use Rattle.module_view.specs.declared.comdat_choice.ComdatChoice.{ComdatChoice}
use Rattle.comdat.specs.declared.chosen_by.ChosenBy.{ChosenBy}
use Rattle.comdat.specs.declared.chosen_by.ChosenBy.TheVariants as by
use Rattle.comdat.specs.ChosenBy.{by_choice, by_choices}
use Rattle.comdat.proofs.OrderLemmas.{OrderSoFar, order_none, order_itself, order_group, order_child, order_next, order_all}
use Rattle.comdat.proofs.rows.flags_in_order.Goals as goal
use Rattle.comdat.proofs.rows.flags_in_order.Goals.{in-Itself, in-Group, in-Parent+else-parent-eq0+else-parent-index}

in_row : (choices : List (Option ComdatChoice)) (k : ℕ) → k < length choices → k < length (by_choices choices)
in_row choices k lt = omega (arith, lt, length-map choices by_choice)

-- the section at a place
here : (choices : List (Option ComdatChoice)) (k : ℕ) (said : ChosenBy) → k < length choices → said ≡ by_choice (get_or choices k None) → said ≡ get_or (by_choices choices) k by.Itself
here choices k said lt is = is ∙ sym (get_or-map by_choice choices k None by.Itself lt)

pub loop-index-init : goal.loop-index-init
loop-index-init c =
    order_none (by_choices c.args.choices.now) c.args.selected.now c.in_ok-flags.flags.items c.requires
    (ap length (c.in_ok-flags.ensures.items_if_clones_equal (λ y e. e)) ∙ length-replicate (length c.args.choices.now) false ∙ sym (length-map c.args.choices.now by_choice))

pub bounds-rest-0 : goal.bounds-rest-0
bounds-rest-0 c =
    let k = c.loop-index.index in
    let some : 0 < length c.loop-index.rest.now = order_next (by_choices c.args.choices.now) c.args.selected.now c.loop-index.rest.now c.loop-index.flags.items k c.loop-index.invariant (in_row c.args.choices.now k c.loop-index-test.true) (here c.args.choices.now k by.Group c.loop-index-test.true c.in-Group.ensures) in
    search rules

pub slice_bounds-rest-count : goal.slice_bounds-rest-count
slice_bounds-rest-count c =
    let k = c.loop-index.index in
    let some : 0 < length c.loop-index.rest.now = order_next (by_choices c.args.choices.now) c.args.selected.now c.loop-index.rest.now c.loop-index.flags.items k c.loop-index.invariant (in_row c.args.choices.now k c.loop-index-test.true) (here c.args.choices.now k by.Group c.loop-index-test.true c.in-Group.ensures) in
    omega (arith, some)

pub slice_bounds-rest-start : goal.slice_bounds-rest-start
slice_bounds-rest-start c =
    let k = c.loop-index.index in
    let some : 0 < length c.loop-index.rest.now = order_next (by_choices c.args.choices.now) c.args.selected.now c.loop-index.rest.now c.loop-index.flags.items k c.loop-index.invariant (in_row c.args.choices.now k c.loop-index-test.true) (here c.args.choices.now k by.Group c.loop-index-test.true c.in-Group.ensures) in
    search rules

pub loop-index-preserved : goal.loop-index-preserved
loop-index-preserved c =
    let choices = c.args.choices.now in
    let row = by_choices choices in
    let selected = c.args.selected.now in
    let k = c.loop-index.index in
    let rest = c.loop-index.rest.now in
    let flags = c.loop-index.flags.items in
    let before = c.loop-index.invariant in
    let lt = in_row choices k c.loop-index-test.true in
    let now = λ (r fs : List Bool). OrderSoFar row selected r fs (k + 1) in
    elim c.match-of.branch [
      | in-Itself w ↦
          subst (now c.match-of.rest.now) (sym (ap (λ (v : Vec Bool Global). v.items) w.flags-is))
          (subst (λ (r : List Bool). now r (set flags k true)) (sym (ap (λ (r : Bor (List Bool)). r.now) w.rest-is))
          (order_itself row selected rest flags k before lt (here choices k by.Itself c.loop-index-test.true w.in-Itself.ensures)))
      | in-Group w ↦
          subst (now c.match-of.rest.now) (sym (ap (λ (v : Vec Bool Global). v.items) w.flags-is))
          (order_group row selected rest c.match-of.rest.now flags k before lt (here choices k by.Group c.loop-index-test.true w.in-Group.ensures)
          (ap (λ (r : Bor (List Bool)). r.now) w.rest-is ∙ take_all (length rest - 1) (drop 1 rest) (omega (arith, length-drop 1 rest))))
      | in-Parent+else-parent-eq0+else-parent-index w ↦
          let parent = w.in-Parent.parent in
          let some : 0 < parent = omega (arith, w.if-parent-eq0.false) in
          let le : parent ≤ k = omega (arith, w.if-parent-index.false) in
          let read : w.index.result.now ≡ get_or flags (parent - 1) false =
          get_or_read flags (parent - 1) w.index.result.now (omega (arith, some, le, lt, before.full)) w.index.ensures false in
          subst (now c.match-of.rest.now) (sym (ap (λ (v : Vec Bool Global). v.items) w.flags-is ∙ ap (set flags k) read))
          (subst (λ (r : List Bool). now r (set flags k (get_or flags (parent - 1) false))) (sym (ap (λ (r : Bor (List Bool)). r.now) w.rest-is))
          (order_child row selected rest flags k parent before lt (here choices k (by.Parent parent) c.loop-index-test.true w.in-Parent.ensures) some le))
    ]

pub returns : goal.returns
returns c = λ bytes chosen later is ends told.
    order_all (by_choices c.args.choices.now) c.args.selected.now c.loop-index.rest.now c.loop-index.flags.items c.loop-index.index bytes chosen later c.loop-index.invariant (omega (arith, c.loop-index-test.false, c.loop-index.auto, length-map c.args.choices.now by_choice)) is ends told
