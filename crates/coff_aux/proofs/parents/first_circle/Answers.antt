use Rattle.std.proofs.Common.{length, sym, ap, ◌∙◌, subst, arith}
use Rattle.link_base.proofs.CallerLemmas.{first_below-more, first_below-found, first_below-all_fail}
use Rattle.coff_aux.specs.Parents.{comes_back}
use Rattle.coff_aux.proofs.StartLemmas.{unmarked}
use Rattle.coff_aux.proofs.ParentLemmas.{AreMarksOfEnds, none_marked, ends_after_walk, circle_if_never_met, more_marks, written}
use Rattle.coff_aux.proofs.parents.first_circle.Goals as goal

pub loop-section-init : goal.loop-section-init
loop-section-init c = record {
  count = omega (arith, c.in_ok-ended.ensures.len);
  known = none_marked c.args.parents.now c.in_ok-ended.ended.items (λ k. unmarked c.in_ok-ended.ended.items _ k (c.in_ok-ended.ensures.items_if_clones_equal (λ y e. e)));
  none = first_below-all_fail 0 _ (λ k lt. absurd (omega arith));
}

pub returns-in-None : goal.returns-in-None
returns-in-None c =
    let parents = c.args.parents.now in
    let section = c.loop-section.section in
    let within = c.loop-section-test.true in
    sym (first_below-found section (length parents) (comes_back parents) within c.loop-section.invariant.none
    (circle_if_never_met parents c.deref.result.now section c.requires.parents within (sym c.in-None.ensures)))

pub loop-section-preserved : goal.loop-section-preserved
loop-section-preserved c =
    let parents = c.args.parents.now in
    let section = c.loop-section.section in
    let are = c.requires.parents in
    let within = c.loop-section-test.true in
    let known = c.loop-section.invariant.known in
    let ends = ends_after_walk parents c.deref.result.now section c.in-Some.steps are within (subst (AreMarksOfEnds parents) (sym c.deref.ensures.value) known) c.in-Some.ensures in
    let old = subst (AreMarksOfEnds parents) (sym c.deref_mut.ensures.value) known in
    let new = c.mark.new.ended in
    let whole = written c.loop-section.ended.len new _ (omega arith) in
    record {
      count = ap length whole ∙ omega arith;
      known = subst (AreMarksOfEnds parents) (sym whole) (more_marks parents c.deref_mut.result.now new section c.in-Some.steps are within ends old c.mark.ensures);
      none = first_below-more section (comes_back parents) c.loop-section.invariant.none ends;
    }
