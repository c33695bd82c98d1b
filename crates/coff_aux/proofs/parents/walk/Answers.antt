use Rattle.std.proofs.Common.{◌≡◌, length, sym, ◌∙◌, true}
use Rattle.std.proofs.lemmas.Bool.{eq-eqb, ne_eqb, or_from, or_left, or_right}
use Rattle.link_base.proofs.CallerLemmas.{first_below-more, first_below-found}
use Rattle.coff_aux.specs.Parents.{is_met}
use Rattle.coff_aux.proofs.ParentLemmas.{ancestor-none, none_met, ancestor-more, met_at}
use Rattle.coff_aux.proofs.parents.walk.Goals.{then-at-eq0-via-then-at-eq0, then-at-eq0-via-else-at-eq0+then-ended-at}
use Rattle.coff_aux.proofs.parents.walk.Goals as goal

pub loop-steps-init : goal.loop-steps-init
loop-steps-init c = record {
  at = ancestor-none c.args.parents.now c.args.section;
  within = c.requires.within;
  goes_on = none_met c.args.parents.now c.args.ended.now c.args.section;
}

pub returns-then-at-eq0 : goal.returns-then-at-eq0
returns-then-at-eq0 c =
    let parents = c.args.parents.now in
    let test = is_met parents c.args.ended.now c.args.section in
    let steps = c.loop-steps.steps in
    let here = met_at parents c.args.ended.now c.args.section steps c.loop-steps.at c.loop-steps.invariant.at in
    let found = λ (met : test steps ≡ true). sym (first_below-found steps (length parents) test c.loop-steps-test.true c.loop-steps.invariant.goes_on met) in
    elim c.then-at-eq0.branch [
      | then-at-eq0-via-then-at-eq0 w ↦ found (here ∙ or_left _ _ (eq-eqb c.loop-steps.at 0 w.if-at-eq0.true))
      | then-at-eq0-via-else-at-eq0+then-ended-at w ↦ found (here ∙ or_right _ _ w.if-ended-at.true)
    ]

pub loop-steps-preserved : goal.loop-steps-preserved
loop-steps-preserved c =
    let parents = c.args.parents.now in
    let at = c.loop-steps.at in
    let steps = c.loop-steps.steps in
    let before = c.loop-steps.invariant in
    let here = met_at parents c.args.ended.now c.args.section steps at before.at in
    record {
      at = ancestor-more parents c.args.section steps at before.at;
      within = c.requires.parents.within at before.within;
      goes_on = first_below-more steps (is_met parents c.args.ended.now c.args.section) before.goes_on (here ∙ or_from _ _ (ne_eqb at 0 c.if-at-eq0.false) c.if-ended-at.false);
    }
