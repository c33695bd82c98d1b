use Rattle.std.proofs.Common.{◌≡◌, ◌<◌, ◌≤◌, ℕ, List, ◌++◌, length, get_or, drop, take, sym, ap, subst, ◌∙◌, inl, inr, arith}
use Rattle.std.proofs.lemmas.Bool.{cases_lt}
use Rattle.std.proofs.lemmas.List.{take-append-le, take_all, length-replicate, get_or-replicate}
use Rattle.comdat.specs.Chains.{AreEnds}
use Rattle.comdat.proofs.ChainLemmas.{none_known, all_known, end_some}
use Rattle.comdat.proofs.chains.chain_ends.Goals as goal

pub loop-section-init : goal.loop-section-init
loop-section-init c = record {
  within = omega (arith, c.requires.some);
  known =
      none_known c.args.parents.now c.in_ok-ends.ends.items (ap length (c.in_ok-ends.ensures.items_if_clones_equal (λ y e. e)) ∙ length-replicate (length c.args.parents.now) 0)
      (λ k lt. ap (λ (xs : List ℕ). get_or xs k 0) (c.in_ok-ends.ensures.items_if_clones_equal (λ y e. e)) ∙ get_or-replicate (length c.args.parents.now) k 0 0 lt);
  noted = λ k some lt. absurd (omega (arith, some, lt));
}

-- a list that is as long as another one, written over it
written : (len : ℕ) (new old : List ℕ) → len ≡ length new → take len (new ++ drop (length new) old) ≡ new
written len new old same =
    let le : len ≤ length new = omega (arith, same) in
    take-append-le len new (drop (length new) old) le ∙ take_all len new (omega (arith, same))

pub loop-section-preserved : goal.loop-section-preserved
loop-section-preserved c =
    let parents = c.args.parents.now in
    let section = c.loop-section.section in
    let before = c.loop-section.invariant in
    let old = c.loop-section.ends.items in
    let new = c.note_end.new.known in
    let ends = c.note_end.ensures in
    let low : 0 < section = omega (arith, c.loop-section.auto.section) in
    let is = written c.loop-section.ends.len new old (omega (arith, ends.known.same_length, before.known.same_length, c.deref_mut.ensures.len, ap length c.deref_mut.ensures.value)) in
    let some : 0 < c.end_of-end.result =
    subst (λ (n : ℕ). 0 < n) (sym c.end_of-end.ensures)
    (end_some parents section (record { are = c.requires.parents; ends = c.requires.ends }) low c.loop-section-test.true) in
    record {
      within = omega (arith, c.loop-section-test.true);
      known = subst (AreEnds parents) (sym is) ends.known;
      noted = λ k first lt.
          subst (λ (xs : List ℕ). 0 < get_or xs k 0) (sym is)
          (elim (cases_lt k section) [
            | inl earlier ↦
                let was = subst (λ (xs : List ℕ). 0 < get_or xs k 0) (sym c.deref_mut.ensures.value) (before.noted k first earlier) in
                subst (λ (n : ℕ). 0 < n) (sym (ends.kept k was)) was
            | inr past ↦
                subst (λ (j : ℕ). 0 < get_or new j 0) (omega (arith, past, lt)) (subst (λ (n : ℕ). 0 < n) (sym ends.noted) some)
          ]);
    }

pub returns : goal.returns
returns c =
    all_known c.args.parents.now c.loop-section.ends.items c.requires.parents c.requires.some c.loop-section.invariant.known
    (λ k first lt. c.loop-section.invariant.noted k first (omega (arith, lt, c.loop-section-test.false)))
