-- The first of the greatest sizes of a group, and of a part of it.
use Rattle.std.proofs.Common.{◌≡◌, ℕ, zero, suc, ◌+◌, ◌<◌, ◌≤◌, Bool, true, false, cond, List, [], ◌∷◌, length, Some, refl, ap, subst, add-one, arith}
use Rattle.std.specs.Prelude.{nat_lt}
use Rattle.std.specs.List.{list_all}
use borrow.Author.Count.{below_more}
use Rattle.std.proofs.lemmas.Bool.{ltb-true, ltb-false, le-leb, lt-leb, and_from}
use Rattle.std.proofs.lemmas.List.Folds.{list_all_at}
use Rattle.link_base.proofs.CallerLemmas.{first_below-found, first_below-all_fail}
use Rattle.comdat.specs.declared.candidate.Candidate.{Candidate}
use Rattle.comdat.specs.Choice.{no_candidate, size_at, is_at_most, greatest_place}

-- of the first n, the place of the first of those of the greatest size
pub record IsGreatestOf (list : List Candidate) (n place : ℕ) : Type 0 where
  pub within : place < n
  pub most : (k : ℕ) → k < n → size_at list k ≤ size_at list place
  pub before : (k : ℕ) → k < place → size_at list k < size_at list place

pub greatest_first : (list : List Candidate) → IsGreatestOf list 1 0
greatest_first list = record {
  within = omega arith;
  most = λ k lt. let same : k ≡ 0 = omega arith in omega (arith, ap (size_at list) same);
  before = λ k lt. absurd (omega arith);
}

-- of one more
pub greatest_more : (list : List Candidate) (n place : ℕ) → IsGreatestOf list n place → IsGreatestOf list (n + 1) (cond (nat_lt (size_at list place) (size_at list n)) n place)
greatest_more list n place is = go (nat_lt (size_at list place) (size_at list n)) refl
  where
    go : (b : Bool) → nat_lt (size_at list place) (size_at list n) ≡ b → IsGreatestOf list (n + 1) (cond b n place)
    go true e = record {
      within = omega arith;
      most = below_more (λ k. size_at list k ≤ size_at list n) n (λ k lt. omega (arith, is.most k lt, ltb-true (size_at list place) (size_at list n) e)) (omega arith);
      before = λ k lt. omega (arith, is.most k lt, ltb-true (size_at list place) (size_at list n) e);
    }
    go false e = record {
      within = omega (arith, is.within);
      most = below_more (λ k. size_at list k ≤ size_at list place) n is.most (omega (arith, ltb-false (size_at list place) (size_at list n) e));
      before = is.before;
    }

-- of several there is one
pub some_greatest : (list : List Candidate) (n : ℕ) → (place : ℕ) × IsGreatestOf list (n + 1) place
some_greatest list zero = (0, greatest_first list)
some_greatest list (suc n) =
    let earlier = some_greatest list n in
    let more = greatest_more list (n + 1) earlier.0 earlier.1 in
    (_, subst (λ (m : ℕ). IsGreatestOf list (m + 1) (cond (nat_lt (size_at list earlier.0) (size_at list (n + 1))) (n + 1) earlier.0)) (add-one n) more)

all_at_most : (list : List Candidate) (size : ℕ) → ((k : ℕ) → k < length list → size_at list k ≤ size) → list_all (is_at_most size) list ≡ true
all_at_most [] size most = refl
all_at_most (first ∷ rest) size most =
    and_from (is_at_most size first) (list_all (is_at_most size) rest) (le-leb _ _ (most 0 (omega arith))) (all_at_most rest size (λ k lt. most (suc k) (omega arith)))

-- the place that the definition gives
pub greatest_is : (list : List Candidate) (place : ℕ) → IsGreatestOf list (length list) place → greatest_place list ≡ Some place
greatest_is list place is =
    let test : ℕ → Bool = λ k. list_all (is_at_most (size_at list k)) list in
    first_below-found place (length list) test is.within (first_below-all_fail place test (λ k lt. list_all_at (is_at_most (size_at list k)) list place no_candidate is.within (lt-leb _ _ (is.before k lt)))) (all_at_most list (size_at list place) is.most)
