-- A list has one order, where items that tie are one.
use Rattle.std.proofs.Common.{◌≡◌, ℕ, zero, suc, ◌+◌, ◌<◌, Bool, true, false, cond, List, [], ◌∷◌, length, get_or, refl, sym, ap, ◌∙◌, arith}
use Rattle.std.specs.List.{sum_by}
use Rattle.std.specs.List.Sorted.{IsSorted, IsPermutation}
use Rattle.std.specs.Ordering.{is_lt, ordering_reverse}
use Rattle.std.specs.Cmp.{IsTotalOrder}
use Rattle.std.specs.declared.cmp.Ordering.{Ordering}
use Rattle.std.specs.declared.cmp.Ordering.TheVariants.{Less, Equal, Greater}
use Rattle.std.proofs.lemmas.Bool.{false≢true, true≢false}
use Rattle.std.proofs.lemmas.List.Sums.{sum_by-cons}
use Rattle.std.proofs.lemmas.List.Sorted.{sorted_far, ranks_by, sum_by-IsPermutation, IsPermutation-refl, IsPermutation-cons, IsPermutation-trans, IsPermutation-middle, IsPermutation-sym}
use Rattle.sorted_lists.specs.Order.{inserted, in_order}

module _ {X : Type 0} (R : X → X → Ordering) where
  -- ---- an order is one of the same items

  pub inserted_permutes : (x : X) (xs : List X) → IsPermutation (x ∷ xs) (inserted R x xs)
  unfolding inserted
  inserted_permutes x [] = IsPermutation-refl (x ∷ [])
  inserted_permutes x (y ∷ ys) = go (is_lt (R y x)) (inserted_permutes x ys)
    where
      go : (b : Bool) → IsPermutation (x ∷ ys) (inserted R x ys) → IsPermutation (x ∷ y ∷ ys) (cond b (y ∷ inserted R x ys) (x ∷ y ∷ ys))
      go true rest = IsPermutation-trans _ _ _ (IsPermutation-sym _ _ (IsPermutation-middle (y ∷ []) x ys)) (IsPermutation-cons y _ _ rest)
      go false rest = IsPermutation-refl (x ∷ y ∷ ys)

  pub order_permutes : (xs : List X) → IsPermutation xs (in_order R xs)
  unfolding in_order
  order_permutes [] = IsPermutation-refl []
  order_permutes (x ∷ xs) = IsPermutation-trans _ _ _ (IsPermutation-cons x _ _ (order_permutes xs)) (inserted_permutes x (in_order R xs))

  -- ---- it ascends

  pub sorted_cons : (y : X) (zs : List X) → ((d : X) → 0 < length zs → is_lt (R (get_or zs 0 d) y) ≡ false) → IsSorted R zs → IsSorted R (y ∷ zs)
  sorted_cons y zs first rest zero d low lt = first d (omega (arith, lt))
  sorted_cons y zs first rest (suc k) d low lt =
      let place : suc k + 1 ≡ suc (k + 1) = omega arith in
      ap (λ (n : ℕ). is_lt (R (get_or (y ∷ zs) n d) (get_or zs k d))) place ∙ rest k d (omega arith) (omega (arith, lt))

  pub sorted_first : (y z : X) (zs : List X) → IsSorted R (y ∷ z ∷ zs) → is_lt (R z y) ≡ false
  sorted_first y z zs sorted = sorted 0 y (omega arith) (omega arith)

  pub sorted_tail : (y : X) (zs : List X) → IsSorted R (y ∷ zs) → IsSorted R zs
  sorted_tail y zs sorted k d low lt =
      let place : suc (k + 1) ≡ suc k + 1 = omega arith in
      ap (λ (n : ℕ). is_lt (R (get_or (y ∷ zs) n d) (get_or zs k d))) place ∙ sorted (suc k) d (omega arith) (omega (arith, lt))

  module _ (o : IsTotalOrder R) where
    flipped : (r s : Ordering) → r ≡ ordering_reverse s → is_lt s ≡ true → is_lt r ≡ false
    flipped r Less e p = ap is_lt e
    flipped r Equal e p = absurd (false≢true p)
    flipped r Greater e p = absurd (false≢true p)

    turned : (r s : Ordering) → r ≡ ordering_reverse s → is_lt r ≡ false → is_lt s ≡ false → s ≡ Equal
    turned r Less e p q = absurd (true≢false q)
    turned r Equal e p q = refl
    turned r Greater e p q = absurd (true≢false (sym (ap is_lt e) ∙ p))

    pub inserted_sorted : (x : X) (xs : List X) → IsSorted R xs → IsSorted R (inserted R x xs)
    unfolding inserted
    inserted_sorted x [] sorted = sorted_cons x [] (λ d lt. absurd (omega (arith, lt))) sorted
    inserted_sorted x (y ∷ ys) sorted = go (is_lt (R y x)) refl (inserted_sorted x ys (sorted_tail y ys sorted))
      where
        before : is_lt (R y x) ≡ true → (zs : List X) → IsSorted R (y ∷ zs) → (d : X) → is_lt (R (get_or (inserted R x zs) 0 d) y) ≡ false
        before lt [] up d = flipped (R x y) (R y x) (o.antisymm x y) lt
        before lt (z ∷ zs) up d = pick (is_lt (R z x))
          where
            pick : (b : Bool) → is_lt (R (get_or (cond b (z ∷ inserted R x zs) (x ∷ z ∷ zs)) 0 d) y) ≡ false
            pick true = sorted_first y z zs up
            pick false = flipped (R x y) (R y x) (o.antisymm x y) lt

        go : (b : Bool) → is_lt (R y x) ≡ b → IsSorted R (inserted R x ys) → IsSorted R (cond b (y ∷ inserted R x ys) (x ∷ y ∷ ys))
        go true lt rest = sorted_cons y (inserted R x ys) (λ d some. before lt ys sorted d) rest
        go false not_lt rest = sorted_cons x (y ∷ ys) (λ d some. not_lt) sorted

    pub order_sorted : (xs : List X) → IsSorted R (in_order R xs)
    unfolding in_order
    order_sorted [] = λ k d low lt. absurd (omega (arith, lt))
    order_sorted (x ∷ xs) = inserted_sorted x (in_order R xs) (order_sorted xs)

    -- ---- there is one

    before : X → X → ℕ
    before y z = cond (is_lt (R z y)) 1 0

    none_before : (y : X) (zs : List X) → ((k : ℕ) (d : X) → k < length zs → is_lt (R (get_or zs k d) y) ≡ false) → sum_by (before y) zs ≡ 0
    unfolding before
    none_before y [] each = refl
    none_before y (z ∷ zs) each =
        let more = sum_by-cons (before y) z zs in
        let first : before y z ≡ 0 = ap (λ (b : Bool). cond b 1 0) (each 0 z (omega arith)) in
        let rest = none_before y zs (λ k d lt. each (suc k) d (omega (arith, lt))) in
        omega (arith, more, first, rest)

    none_before_first : (y : X) (ys : List X) → IsSorted R (y ∷ ys) → sum_by (before y) (y ∷ ys) ≡ 0
    none_before_first y ys sorted =
        none_before y (y ∷ ys) (λ k d lt. sorted_far (λ a b. is_lt (R a b)) (ranks_by o (λ (x : X). x)) (y ∷ ys) sorted 0 k d (omega arith) lt)

    pub HaveOneSum : List X → List X → Type 0
    HaveOneSum xs ys = (f : X → ℕ) → sum_by f xs ≡ sum_by f ys

    not_before : (x y : X) (xs ys : List X) → HaveOneSum (x ∷ xs) (y ∷ ys) → IsSorted R (y ∷ ys) → is_lt (R x y) ≡ false
    unfolding before HaveOneSum
    not_before x y xs ys sums sorted = go (is_lt (R x y)) refl
      where
        go : (b : Bool) → is_lt (R x y) ≡ b → b ≡ false
        go false e = refl
        go true e =
            let none = none_before_first y ys sorted in
            let more = sum_by-cons (before y) x xs in
            let first : before y x ≡ 1 = ap (λ (b : Bool). cond b 1 0) e in
            absurd (omega (arith, none, more, first, sums (before y)))

    pub one_order : ((a b : X) → R a b ≡ Equal → a ≡ b) → (xs ys : List X) → HaveOneSum xs ys → IsSorted R xs → IsSorted R ys → xs ≡ ys
    unfolding HaveOneSum
    one_order same [] [] sums up up' = refl
    one_order same [] (y ∷ ys) sums up up' = let more = sum_by-cons (λ (x : X). 1) y ys in absurd (omega (arith, more, sums (λ x. 1)))
    one_order same (x ∷ xs) [] sums up up' = let more = sum_by-cons (λ (y : X). 1) x xs in absurd (omega (arith, more, sums (λ x. 1)))
    one_order same (x ∷ xs) (y ∷ ys) sums up up' =
        let left = not_before x y xs ys sums up' in
        let right = not_before y x ys xs (λ f. sym (sums f)) up in
        let heads : x ≡ y = same x y (turned (R y x) (R x y) (o.antisymm y x) right left) in
        let tails : xs ≡ ys = one_order same xs ys (λ f.
        let first = sum_by-cons f x xs in
        let second = sum_by-cons f y ys in
        let one = ap f heads in
        let all = sums f in
        omega (arith, first, second, one, all)) (sorted_tail x xs up) (sorted_tail y ys up') in
        ap (λ (z : X). z ∷ xs) heads ∙ ap (λ (zs : List X). y ∷ zs) tails

    -- a list that ascends is the order of one that has its items, each as often; told by sums over both
    pub is_order_of_sums : ((a b : X) → R a b ≡ Equal → a ≡ b) → (xs ys : List X) → ((f : X → ℕ) → sum_by f ys ≡ sum_by f xs) → IsSorted R ys → ys ≡ in_order R xs
    unfolding HaveOneSum
    is_order_of_sums same xs ys sums up =
        one_order same ys (in_order R xs) (λ f. sums f ∙ sym (sum_by-IsPermutation f xs (in_order R xs) (order_permutes xs))) up (order_sorted xs)

    -- told by a permutation
    pub is_in_order : ((a b : X) → R a b ≡ Equal → a ≡ b) → (xs ys : List X) → IsPermutation xs ys → IsSorted R ys → ys ≡ in_order R xs
    is_in_order same xs ys moved up = is_order_of_sums same xs ys (λ f. sum_by-IsPermutation f xs ys moved) up
