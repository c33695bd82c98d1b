use Rattle.std.proofs.Common.{ℕ, List, length, sym, ap, ◌∙◌, subst}
use Rattle.std.proofs.lemmas.Bool.{false≢true}
use Rattle.std.proofs.lemmas.Slice.Eq.{bytes_eq-Decides}
use Rattle.icf.specs.Rounds.{AreListsWithin, Refines}
use Rattle.icf.proofs.RoundLemmas.{split_at_first, split_more, round_smaller}
use Rattle.icf.proofs.rounds.split_all.Goals as goal

pub loop-classes-init : goal.loop-classes-init
loop-classes-init c = split_at_first c.args.lists.now c.args.first.items c.requires.first

pub refine-requires-clause-within : goal.refine-requires-clause-within
refine-requires-clause-within c =
    subst (λ (n : ℕ). AreListsWithin n c.args.lists.now) (sym c.loop-classes.invariant.same_length ∙ ap length (sym c.deref.ensures.value)) c.requires.within

pub loop-classes-smaller : goal.loop-classes-smaller
loop-classes-smaller c =
    let refines = subst (λ (classes : List ℕ). Refines c.args.lists.now classes c.in_ok-refined.refined.items) c.deref.ensures.value c.in_ok-refined.ensures in
    round_smaller c.args.lists.now c.args.first.items c.loop-classes.classes.items c.in_ok-refined.refined.items c.requires.same_length c.loop-classes.invariant refines
    (λ same. false≢true (c.if-eq.ensures ∙ (bytes_eq-Decides c.in_ok-refined.refined.items c.loop-classes.classes.items).1 same))

pub loop-classes-preserved : goal.loop-classes-preserved
loop-classes-preserved c =
    let refines = subst (λ (classes : List ℕ). Refines c.args.lists.now classes c.in_ok-refined.refined.items) c.deref.ensures.value c.in_ok-refined.ensures in
    split_more c.args.lists.now c.args.first.items c.loop-classes.classes.items c.in_ok-refined.refined.items c.loop-classes.invariant refines
