-- Rounds: each splits classes further and parts no pairs that stay together, until none splits.
use Rattle.std.proofs.Common.{◌≡◌, ℕ, suc, ◌+◌, ◌-◌, ◌<◌, ◌≤◌, ◌⊎◌, inl, inr, List, [], ◌∷◌, length, get_or, Vec, refl, sym, ap, ◌∙◌, arith}
use Rattle.std.specs.declared.alloc.Global.{Global}
use Rattle.std.proofs.lemmas.Bool.{cases_lt}
use Rattle.std.proofs.lemmas.List.Elements.{All-contains}
use Rattle.icf.specs.declared.field.Field.{Field}
use Rattle.icf.specs.FirstEqual.{AreFirstTo}
use Rattle.icf.specs.Folding.{AreLeast}
use Rattle.icf.specs.contracts.rounds.KeyPartialEq.TheImpl as key_eq
use Rattle.icf.specs.declared.rounds.Key.{Key}
use Rattle.icf.proofs.EqualLemmas.{keys_equal, keys_tell}
use Rattle.icf.proofs.ListLemmas.{any_item}
use Rattle.icf.specs.Rounds.{AreKeys, Refines, AreSplit, AreSettled, room}

module _ (lists : List (Vec Field Global)) (start : List ℕ) where
  -- ---- the classes of a round

  pub split_at_first : AreLeast start → AreSplit lists start start
  split_at_first first = record { same_length = refl; first = first; finer = λ i j lt lt' e. e; joins = λ pairs below joined stays. joined }

  pub split_more : (classes refined : List ℕ) → AreSplit lists start classes → Refines lists classes refined → AreSplit lists start refined
  split_more classes refined split refines = record {
    same_length = refines.same_length ∙ split.same_length;
    first = refines.first;
    finer = λ i j lt lt' e. split.finer i j lt lt' (refines.finer i j (omega (arith, split.same_length)) (omega (arith, split.same_length)) e);
    joins = λ pairs below joined stays left right related.
        let both = All-contains (λ (pair : ℕ × ℕ). (pair.0 < length start) × (pair.1 < length start)) pairs (left, right) below related in
        let lt = both.0 in
        let lt' = both.1 in
        let joins = split.joins pairs below joined stays in
        refines.every left right (omega (arith, split.same_length)) (omega (arith, split.same_length)) (joins left right related) (stays classes joins left right related);
  }

  pub settled : (classes refined : List ℕ) → AreSplit lists start classes → Refines lists classes refined → refined ≡ classes → AreSettled lists start classes
  settled classes refined split refines same = record {
    split = split;
    stable = λ i j lt lt' e.
        refines.equal i j (omega (arith, split.same_length)) (omega (arith, split.same_length)) (ap (λ (numbers : List ℕ). get_or numbers i 0) same ∙ e ∙ sym (ap (λ (numbers : List ℕ). get_or numbers j 0) same));
  }

  -- ---- the rounds end

  pub class_rises : (classes refined : List ℕ) → AreSplit lists start classes → Refines lists classes refined → (i : ℕ) → i < length classes → get_or classes i 0 ≤ get_or refined i 0
  class_rises classes refined split refines i lt =
      let low = refines.first.low i (omega (arith, refines.same_length)) in
      let own = refines.first.own i (omega (arith, refines.same_length)) in
      let one = refines.finer (get_or refined i 0) i (omega arith) lt own in
      let least = split.first.low (get_or refined i 0) (omega arith) in
      omega arith

pub room_falls : (count : ℕ) (old new : List ℕ) → length new ≡ length old → ((i : ℕ) → i < length old → get_or old i 0 ≤ get_or new i 0) → ((i : ℕ) → i < length new → get_or new i 0 < count)
    → (new ≡ old) ⊎ (room count new < room count old)
room_falls count [] [] same up below = inl refl
room_falls count [] (y ∷ ys) same up below = absurd (omega arith)
room_falls count (x ∷ xs) [] same up below = absurd (omega arith)
room_falls count (x ∷ xs) (y ∷ ys) same up below =
    by (room_falls count xs ys (omega arith) (λ i lt. up (suc i) (omega arith)) (λ i lt. below (suc i) (omega arith)))
  where
    first : x ≤ y
    first = up 0 (omega arith)

    within : y < count
    within = below 0 (omega arith)

    by : ((ys ≡ xs) ⊎ (room count ys < room count xs)) → ((y ∷ ys) ≡ (x ∷ xs)) ⊎ ((count - y) + room count ys < (count - x) + room count xs)
    by (inr less) = let f = first in let w = within in inr (omega arith)
    by (inl same_rest) = elim (cases_lt x y) [
      | inl lt ↦ let w = within in let e = ap (room count) same_rest in inr (omega arith)
      | inr le ↦ let f = first in let e : y ≡ x = omega arith in inl (ap (λ (n : ℕ). n ∷ ys) e ∙ ap (λ (ns : List ℕ). x ∷ ns) same_rest)
    ]

pub round_smaller : (lists : List (Vec Field Global)) (start classes refined : List ℕ) → length lists ≡ length start → AreSplit lists start classes → Refines lists classes refined → (refined ≡ classes → ⊥) → room (length lists) refined < room (length lists) classes
round_smaller lists start classes refined same split refines differ =
    elim (room_falls (length lists) classes refined refines.same_length (class_rises lists start classes refined split refines) below) [
      | inl equal ↦ absurd (differ equal)
      | inr less ↦ less
    ]
  where
    below : (i : ℕ) → i < length refined → get_or refined i 0 < length lists
    below i lt = let low = refines.first.low i lt in omega (arith, refines.same_length, split.same_length)

-- ---- one round

pub refined_are : (lists : List (Vec Field Global)) (classes : List ℕ) (keys : List Key) (numbers : List ℕ) → AreKeys lists classes (length classes) keys → AreFirstTo (key_eq.ghosts).eq keys (length keys) numbers → Refines lists classes numbers
refined_are lists classes keys numbers are first = record {
  same_length = first.same_length ∙ are.same_length;
  first = first.first;
  finer = λ i j lt lt' e.
      let d = any_item keys i (omega (arith, are.same_length)) in
      let equal = keys_equal (get_or keys i d) (get_or keys j d) (first.equal i j d (omega (arith, are.same_length)) (omega (arith, are.same_length)) e) in
      sym (are.each i d lt).class ∙ equal.0 ∙ (are.each j d lt').class;
  equal = λ i j lt lt' e.
      let d = any_item keys i (omega (arith, are.same_length)) in
      let equal = keys_equal (get_or keys i d) (get_or keys j d) (first.equal i j d (omega (arith, are.same_length)) (omega (arith, are.same_length)) e) in
      sym (are.each i d lt).fields ∙ equal.1 ∙ (are.each j d lt').fields;
  every = λ i j lt lt' e e'.
      let d = any_item keys i (omega (arith, are.same_length)) in
      first.every i j d (omega (arith, are.same_length)) (omega (arith, are.same_length))
      (keys_tell (get_or keys i d) (get_or keys j d) ((are.each i d lt).class ∙ e ∙ sym (are.each j d lt').class) ((are.each i d lt).fields ∙ e' ∙ sym (are.each j d lt').fields));
}
