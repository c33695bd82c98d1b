use Rattle.std.proofs.Common.{ℕ, List, Vec, length, sym, subst}
use Rattle.std.specs.declared.alloc.Global.{Global}
use Rattle.std.proofs.lemmas.Result.{IfOk-weaker}
use Rattle.icf.specs.Sections.{input_from}
use Rattle.icf.specs.Folding.{KeepsAlike, RelatedBy, ArePairsBelow, AnsweredAlike}
use Rattle.icf.specs.Rounds.{AreListsWithin, AreSettled}
use Rattle.icf.proofs.GatherLemmas.{gathered_as}
use Rattle.icf.proofs.AlikeLemmas.{lists_within, answers_alike, answers_greatest}
use Rattle.icf.proofs.folding.fold.Goals as goal

pub split_all-requires-clause-within : goal.split_all-requires-clause-within
split_all-requires-clause-within c =
    let input = input_from c.args.pieces.now c.args.fixes.now c.args.candidates.now in
    subst (λ (n : ℕ). AreListsWithin n c.deref-2.result.now) (sym c.in_ok-first.ensures.same_length)
    (lists_within input c.requires c.in_ok-owners.owners.items c.in_ok-owners.ensures.owners c.deref-2.result.now (gathered_as c.in_ok-owners.owners.items c.deref.result.now c.args.fixes.now c.args.candidates.now c.in_ok-fields.fields.items c.deref-2.result.now c.deref.ensures.value c.deref-2.ensures.value c.in_ok-fields.ensures))

pub returns-clause-alike : goal.returns-clause-alike
returns-clause-alike c =
    let input = input_from c.args.pieces.now c.args.fixes.now c.args.candidates.now in
    IfOk-weaker c.split_all.result (λ (classes : Vec ℕ Global). AreSettled c.deref-2.result.now c.in_ok-first.first.items classes.items)
    (λ (classes : Vec ℕ Global). KeepsAlike input (AnsweredAlike classes.items))
    (λ classes done.
    answers_alike input c.requires c.in_ok-owners.owners.items c.in_ok-owners.ensures.owners c.deref-2.result.now (gathered_as c.in_ok-owners.owners.items c.deref.result.now c.args.fixes.now c.args.candidates.now c.in_ok-fields.fields.items c.deref-2.result.now c.deref.ensures.value c.deref-2.ensures.value c.in_ok-fields.ensures) c.in_ok-first.first.items classes.items c.in_ok-first.ensures done)
    c.split_all.ensures

pub returns-clause-greatest : goal.returns-clause-greatest
returns-clause-greatest c =
    let input = input_from c.args.pieces.now c.args.fixes.now c.args.candidates.now in
    IfOk-weaker c.split_all.result (λ (classes : Vec ℕ Global). AreSettled c.deref-2.result.now c.in_ok-first.first.items classes.items)
    (λ (classes : Vec ℕ Global). (pairs : List (ℕ × ℕ)) → ArePairsBelow (length c.args.candidates.now) pairs → KeepsAlike input (RelatedBy pairs) → (left right : ℕ) → RelatedBy pairs left right → AnsweredAlike classes.items left right)
    (λ classes done.
    answers_greatest input c.requires c.in_ok-owners.owners.items c.in_ok-owners.ensures.owners c.deref-2.result.now (gathered_as c.in_ok-owners.owners.items c.deref.result.now c.args.fixes.now c.args.candidates.now c.in_ok-fields.fields.items c.deref-2.result.now c.deref.ensures.value c.deref-2.ensures.value c.in_ok-fields.ensures) c.in_ok-first.first.items classes.items c.in_ok-first.ensures done)
    c.split_all.ensures
