-- The first item of a list that passes a test, and what all items of a list pass.
use Rattle.std.proofs.Common.{◌≡◌, ℕ, suc, ◌<◌, List, [], ◌∷◌, length, get_or, map, Option, Some, None, Bool, true, false, cond, refl, sym, ap, ◌∙◌, subst, arith}
use Rattle.std.proofs.lemmas.Option.{same_Some}
use Rattle.std.proofs.lemmas.Bool.{false≢true}
use Rattle.std.proofs.lemmas.List.Elements.{All-nil, All-cons, All-head, All-tail, All-from_get_or}
use Rattle.std.proofs.lemmas.List.FromFn.{fill_by_all, length-map-range_with_len, get_or-map-range_with_len}
use Rattle.std.proofs.lemmas.List.Sorted.{IsPermutation-sym, All-permutation}
use Rattle.std.specs.List.{All, find, filter, range_with_len}
use Rattle.std.specs.List.Sorted.{IsPermutation}

-- it stands somewhere, and passes
pub found_in : {A : Type 0} (test : A → Bool) (xs : List A) (x d : A) → find test xs ≡ Some x → (k : ℕ) × (k < length xs) × (get_or xs k d ≡ x) × (test x ≡ true)
found_in test [] x d e = absurd cc
found_in {A} test (y ∷ ys) x d e = by (λ later. found_in test ys x d later) (test y) refl e
  where
    by : (find test ys ≡ Some x → (k : ℕ) × (k < length ys) × (get_or ys k d ≡ x) × (test x ≡ true)) → (b : Bool) → test y ≡ b → cond b (Some y) (find test ys) ≡ Some x
        → (k : ℕ) × (k < length (y ∷ ys)) × (get_or (y ∷ ys) k d ≡ x) × (test x ≡ true)
    by more true passes here = (0, omega arith, same_Some y x here, subst (λ (z : A). test z ≡ true) (same_Some y x here) passes)
    by more false fails later = let rest = more later in let lt = rest.1 in (suc rest.0, omega arith, rest.2, rest.3)

-- where there is none, each fails
pub none_found : {A : Type 0} (test : A → Bool) (xs : List A) → find test xs ≡ None → All (λ x. test x ≡ false) xs
none_found test [] e = All-nil (λ x. test x ≡ false)
none_found test (y ∷ ys) e = by (λ later. none_found test ys later) (test y) refl e
  where
    by : (find test ys ≡ None → All (λ x. test x ≡ false) ys) → (b : Bool) → test y ≡ b → cond b (Some y) (find test ys) ≡ None → All (λ x. test x ≡ false) (y ∷ ys)
    by more true passes here = absurd cc
    by more false fails later = All-cons (λ x. test x ≡ false) y ys fails (more later)

-- ---- in another list

-- of those that pass a weaker test
pub find-filter : {A : Type 0} (test keep : A → Bool) (xs : List A) → ((x : A) → test x ≡ true → keep x ≡ true) → find test (filter keep xs) ≡ find test xs
find-filter test keep [] weaker = refl
find-filter {A} test keep (x ∷ xs) weaker = by (keep x) (test x) refl refl (find-filter test keep xs weaker)
  where
    by : (b c : Bool) → keep x ≡ b → test x ≡ c → find test (filter keep xs) ≡ find test xs → find test (cond b (x ∷ filter keep xs) (filter keep xs)) ≡ cond (test x) (Some x) (find test xs)
    by true c kept tested same = ap (λ (later : Option A). cond (test x) (Some x) later) same
    by false true left passes same = absurd (false≢true (sym left ∙ weaker x passes))
    by false false left fails same = rw fails same

-- no two items pass
unfoldable pub PassesOnce : {A : Type 0} → (A → Bool) → List A → Type 0
PassesOnce {A} test xs = (i j : ℕ) (d : A) → i < length xs → j < length xs → test (get_or xs i d) ≡ true → test (get_or xs j d) ≡ true → i ≡ j

pub find-permutation : {A : Type 0} (test : A → Bool) (xs ys : List A) → IsPermutation xs ys → PassesOnce test ys → find test ys ≡ find test xs
unfolding PassesOnce
find-permutation {A} test xs ys permuted once = by (find test ys) (find test xs) refl refl
  where
    by : (found other : Option A) → find test ys ≡ found → find test xs ≡ other → found ≡ other
    by None None none neither = refl
    by None (Some x) none e =
        let there = found_in test xs x x e in
        let fails = All-permutation (λ z. test z ≡ false) ys xs (IsPermutation-sym xs ys permuted) (none_found test ys none) there.0 x there.1 in
        absurd (false≢true (sym fails ∙ (ap test there.2 ∙ there.3)))
    by (Some y) None e none =
        let there = found_in test ys y y e in
        let fails = All-permutation (λ z. test z ≡ false) xs ys permuted (none_found test xs none) there.0 y there.1 in
        absurd (false≢true (sym fails ∙ (ap test there.2 ∙ there.3)))
    by (Some y) (Some x) e f =
        let there = found_in test ys y y e in
        let other = found_in test xs x x f in
        let same : All (λ z. test z ≡ true → z ≡ y) ys = All-from_get_or (λ z. test z ≡ true → z ≡ y) ys y
        (λ i lt passes. ap (λ (k : ℕ). get_or ys k y) (once i there.0 y lt there.1 passes (ap test there.2 ∙ there.3)) ∙ there.2) in
        let moved = All-permutation (λ z. test z ≡ true → z ≡ y) ys xs (IsPermutation-sym xs ys permuted) same other.0 x other.1 in
        ap Some (sym (moved (ap test other.2 ∙ other.3)) ∙ other.2)

-- what those that are kept pass, each that is kept passes
pub All-unfilter : {A : Type 0} (P : A → Type 0) (keep : A → Bool) (xs : List A) → All P (filter keep xs) → All (λ x. keep x ≡ true → P x) xs
All-unfilter P keep [] h = All-nil (λ x. keep x ≡ true → P x)
All-unfilter {A} P keep (x ∷ xs) h = by (keep x) refl (λ rest. All-unfilter P keep xs rest) h
  where
    by : (b : Bool) → keep x ≡ b → (All P (filter keep xs) → All (λ x. keep x ≡ true → P x) xs) → All P (cond b (x ∷ filter keep xs) (filter keep xs)) → All (λ x. keep x ≡ true → P x) (x ∷ xs)
    by true kept more h = All-cons (λ x. keep x ≡ true → P x) x xs (λ e. All-head P x (filter keep xs) h) (more (All-tail P x (filter keep xs) h))
    by false left more h = All-cons (λ x. keep x ≡ true → P x) x xs (λ e. absurd (false≢true (sym left ∙ e))) (more h)

-- ---- a list over a range of numbers

pub map_range_same : (f g : ℕ → ℕ) (n : ℕ) → ((k : ℕ) → k < n → f k ≡ g k) → map f (range_with_len 0 n) ≡ map g (range_with_len 0 n)
map_range_same f g n same =
    fill_by_all g (map f (range_with_len 0 n)) n 0 (length-map-range_with_len f 0 n) (λ k lt. get_or-map-range_with_len f 0 n k k 0 lt (omega arith) ∙ same k lt)
