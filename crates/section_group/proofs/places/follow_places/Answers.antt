use Rattle.std.proofs.Common.{◌≡◌, ◌+◌, ◌*◌, ℕ, List, length, map, ap, sym, subst, arith, ◌∙◌}
use Rattle.std.proofs.lemmas.List.{length-map}
use Rattle.link_base.proofs.NameTextLemmas.{same_is}
use Rattle.section_group.specs.Merging.{led}
use Rattle.section_group.specs.Places.{later_place, AreOwnPlaces}
use Rattle.section_group.proofs.PlaceLemmas.{own_within, leads_own, leads_round, leads_far}
use Rattle.section_group.proofs.places.follow_places.Goals as goal

pub loop-steps-init : goal.loop-steps-init
loop-steps-init c =
    let own = c.in_ok-lasts.ensures in
    let places = c.in_ok-lasts.lasts.items in (
      omega arith,
      own.len,
      own_within (length c.args.nexts.now) places own,
      λ given entries targets is. leads_own given entries places targets (subst (λ (n : ℕ). AreOwnPlaces n places) (ap length is) own),
    )

pub returns-then-eq-clause-leads : goal.returns-then-eq-clause-leads
returns-then-eq-clause-leads c = λ given entries targets is.
    let lasts = c.loop-steps.lasts.items in
    let steps = c.loop-steps.steps in
    let once = c.loop-steps.invariant.3 given entries targets is in
    let made = c.in_ok-later.ensures.later ∙ ap (λ (xs : List ℕ). map (later_place c.args.nexts.now xs) xs) c.deref.ensures.value in
    let same = same_is c.in_ok-later.later.items lasts (sym c.eq.ensures ∙ c.if-eq.true) in
    let twice = leads_round given entries steps c.args.nexts.now lasts lasts is (sym same ∙ made) c.loop-steps.invariant.2 once in
    leads_far given entries steps c.args.far lasts c.loop-steps.invariant.0 once twice

pub loop-steps-preserved : goal.loop-steps-preserved
loop-steps-preserved c =
    let nexts = c.args.nexts.now in
    let lasts = c.loop-steps.lasts.items in
    let later = c.in_ok-later.later.items in
    let steps = c.loop-steps.steps in
    let invariant = c.loop-steps.invariant in
    let made = c.in_ok-later.ensures.later ∙ ap (λ (xs : List ℕ). map (later_place nexts xs) xs) c.deref.ensures.value in
    let twice : steps + steps ≡ steps * 2 = omega arith in (
      omega (arith, invariant.0),
      ap length made ∙ length-map lasts (later_place nexts lasts) ∙ invariant.1,
      c.in_ok-later.ensures.within,
      λ given entries targets is name. leads_round given entries steps nexts lasts later is made invariant.2 (invariant.3 given entries targets is) name ∙ ap (λ (n : ℕ). led given n name) twice,
    )
