-- A sorted list of resources that differ is the one list in order.
use Rattle.std.proofs.Common.{◌≡◌, ℕ, zero, suc, ◌+◌, Bool, true, false, cond, List, [], ◌∷◌, get_or, map, refl, sym, ap, ◌∙◌, subst, arith}
use Rattle.std.specs.List.{AllByRecursion, Contains, IsDistinct}
use Rattle.std.specs.List.Sorted.{IsSortedBy, IsPermutation}
use Rattle.std.specs.Ordering.{is_lt, is_eq, ordering_reverse}
use Rattle.std.specs.Cmp.{IsTotalOrder, tied_itself}
use Rattle.std.specs.declared.cmp.Ordering.{Ordering}
use Rattle.std.specs.declared.cmp.Ordering.TheVariants.{Less, Equal, Greater}
use Rattle.std.proofs.lemmas.Bool.{true≢false}
use Rattle.std.proofs.lemmas.List.{length-map, get_or-map}
use Rattle.std.proofs.lemmas.List.Elements.{recursion_from_All, All-from_recursion}
use Rattle.std.proofs.lemmas.List.Sorted.{sorted_far, ranks_by, IsPermutation-refl, IsPermutation-sym, IsPermutation-trans, IsPermutation-cons, IsPermutation-middle, Contains-permutation, All-permutation}
use Rattle.std.proofs.lemmas.Map.Keys.{IsDistinct-IsPermutation}
use Rattle.link_base.proofs.OrderingLemmas.{is_less}
use Rattle.res_merge.specs.Entries.{Entry}
use Rattle.res_merge.specs.Order.{entry_cmp, same_resource, put_in_order, in_order}
use Rattle.res_merge.proofs.OrderLemmas.{entry_total}

abbrev pub EachAbove : {K : Type 0} → (K → K → Ordering) → K → List K → Type 0
EachAbove R x xs = AllByRecursion (λ y. is_lt (R x y) ≡ true) xs

-- each comes before all that follow
abbrev pub Ascends : {K : Type 0} → (K → K → Ordering) → List K → Type 0
Ascends R [] = Unit {0}
Ascends R (x ∷ xs) = EachAbove R x xs × Ascends R xs

each_has : {K : Type 0} (P : K → Type 0) (xs : List K) (x : K) → AllByRecursion P xs → Contains xs x → P x
each_has P [] x each (k, lt, is) = absurd (omega arith)
each_has P (y ∷ ys) x each (zero, lt, is) = subst P is each.0
each_has P (y ∷ ys) x each (suc k, lt, is) = each_has P ys x each.1 (k, omega arith, is)

module _ {K : Type 0} {R : K → K → Ordering} (o : IsTotalOrder R) where
  before_trans : (x y z : K) → is_lt (R x y) ≡ true → is_lt (R y z) ≡ true → is_lt (R x z) ≡ true
  before_trans x y z p q = ap is_lt (o.trans x y z (is_less (R x y) p) (is_less (R y z) q))

  pub not_itself : (x : K) → is_lt (R x x) ≡ true → ⊥
  not_itself x e = true≢false (sym e ∙ ap is_lt (tied_itself o x))

  turned : (r s : Ordering) → r ≡ ordering_reverse s → is_lt r ≡ false → is_eq s ≡ false → is_lt s ≡ true
  turned r Less e p q = refl
  turned r Equal e p q = absurd (true≢false q)
  turned r Greater e p q = absurd (true≢false (sym (ap is_lt e) ∙ p))

  -- not before, and not level: behind
  pub behind : (x y : K) → is_lt (R y x) ≡ false → is_eq (R x y) ≡ false → is_lt (R x y) ≡ true
  behind x y p q = turned (R y x) (R x y) (o.antisymm y x) p q

  both_ways : (x y : K) → is_lt (R x y) ≡ true → is_lt (R y x) ≡ true → ⊥
  both_ways x y p q = not_itself x (before_trans x y x p q)

  each_above_more : (x y : K) (ys : List K) → is_lt (R x y) ≡ true → EachAbove R y ys → EachAbove R x ys
  each_above_more x y [] lt each = tt
  each_above_more x y (z ∷ zs) lt each = (before_trans x y z lt each.0, each_above_more x y zs lt each.1)

  tail_only : (x : K) (xs ys : List K) → EachAbove R x xs → ((z : K) → Contains (x ∷ xs) z → Contains (x ∷ ys) z) → (z : K) → Contains xs z → Contains ys z
  tail_only x xs ys above covers z has =
      go (covers z (suc has.0, omega (arith, has.1), has.2))
    where
      go : Contains (x ∷ ys) z → Contains ys z
      go (zero, lt, is) = absurd (not_itself x (subst (λ (y : K). is_lt (R x y) ≡ true) (sym is) (each_has (λ (y : K). is_lt (R x y) ≡ true) xs z above has)))
      go (suc k, lt, is) = (k, omega arith, is)

  -- lists that ascend and hold the same elements are equal
  pub one_order : (xs ys : List K) → Ascends R xs → Ascends R ys → ((z : K) → Contains xs z → Contains ys z) → ((z : K) → Contains ys z → Contains xs z) → xs ≡ ys
  one_order [] [] up also there back = refl
  one_order [] (y ∷ ys) up also there back = absurd (nothing (back y (0, omega arith, refl)))
    where
      nothing : Contains [] y → ⊥
      nothing (k, lt, is) = omega arith
  one_order (x ∷ xs) [] up also there back = absurd (nothing (there x (0, omega arith, refl)))
    where
      nothing : Contains [] x → ⊥
      nothing (k, lt, is) = omega arith
  one_order (x ∷ xs) (y ∷ ys) up also there back =
      let first : x ≡ y = heads (there x (0, omega arith, refl)) (back y (0, omega arith, refl)) in
      let same : (z : K) → Contains (x ∷ xs) z → Contains (x ∷ ys) z = λ z has. subst (λ (w : K). Contains (w ∷ ys) z) (sym first) (there z has) in
      let same_back : (z : K) → Contains (x ∷ ys) z → Contains (x ∷ xs) z = λ z has. back z (subst (λ (w : K). Contains (w ∷ ys) z) first has) in
      let above : EachAbove R x ys = subst (λ (w : K). EachAbove R w ys) (sym first) also.0 in
      let rest : xs ≡ ys = one_order xs ys up.1 also.1 (tail_only x xs ys up.0 same) (tail_only x ys xs above same_back) in
      ap (λ (w : K). w ∷ xs) first ∙ ap (λ (zs : List K). y ∷ zs) rest
    where
      heads : Contains (y ∷ ys) x → Contains (x ∷ xs) y → x ≡ y
      heads (zero, lt, is) has = sym is
      heads (suc k, lt, is) (zero, lt', is') = is'
      heads (suc k, lt, is) (suc j, lt', is') =
          absurd (both_ways x y (each_has (λ (z : K). is_lt (R x z) ≡ true) xs y up.0 (j, omega arith, is')) (each_has (λ (z : K). is_lt (R y z) ≡ true) ys x also.0 (k, omega arith, is)))

  above_all : (x : K) (xs : List K) → AllByRecursion (λ y. is_lt (R y x) ≡ false) xs → AllByRecursion (λ y. is_eq (R x y) ≡ false) xs → EachAbove R x xs
  above_all x [] p q = tt
  above_all x (y ∷ ys) p q = (behind x y p.0 q.0, above_all x ys p.1 q.1)

  -- a sorted list whose elements differ ascends
  pub sorted_ascends : (xs : List K) → IsSortedBy (λ x y. is_lt (R x y)) xs → IsDistinct (λ x y. is_eq (R x y)) xs → Ascends R xs
  unfolding IsDistinct
  sorted_ascends [] sorted apart = tt
  sorted_ascends (x ∷ xs) sorted apart = (
    above_all x xs (recursion_from_All (λ (y : K). is_lt (R y x) ≡ false) xs (λ k d lt. sorted_far (λ x y. is_lt (R x y)) (ranks_by o (λ (z : K). z)) (x ∷ xs) sorted 0 (suc k) d (omega arith) (omega arith))) apart.0,
    sorted_ascends xs (λ k d low lt. subst (λ (i : ℕ). is_lt (R (get_or (x ∷ xs) i d) (get_or xs k d)) ≡ false) (next k) (sorted (suc k) d (omega arith) (omega arith))) apart.1,
  )
    where
      next : (k : ℕ) → suc k + 1 ≡ suc (k + 1)
      next k = omega arith

-- ---- resources in order

put_moves : (entry : Entry) (list : List Entry) → IsPermutation (entry ∷ list) (put_in_order entry list)
unfolding put_in_order
put_moves entry [] = IsPermutation-refl (entry ∷ [])
put_moves entry (first ∷ rest) = by_test (is_lt (entry_cmp entry first)) (put_moves entry rest)
  where
    by_test : (b : Bool) → IsPermutation (entry ∷ rest) (put_in_order entry rest) → IsPermutation (entry ∷ first ∷ rest) (cond b (entry ∷ first ∷ rest) (first ∷ put_in_order entry rest))
    by_test true moved = IsPermutation-refl (entry ∷ first ∷ rest)
    by_test false moved =
        IsPermutation-trans (entry ∷ first ∷ rest) (first ∷ entry ∷ rest) (first ∷ put_in_order entry rest)
        (IsPermutation-sym (first ∷ entry ∷ rest) (entry ∷ first ∷ rest) (IsPermutation-middle (first ∷ []) entry rest))
        (IsPermutation-cons first (entry ∷ rest) (put_in_order entry rest) moved)

pub order_moves : (list : List Entry) → IsPermutation list (in_order list)
unfolding in_order
order_moves [] = IsPermutation-refl []
order_moves (entry ∷ rest) =
    IsPermutation-trans (entry ∷ rest) (entry ∷ in_order rest) (put_in_order entry (in_order rest)) (IsPermutation-cons entry rest (in_order rest) (order_moves rest)) (put_moves entry (in_order rest))

each_put : (P : Entry → Type 0) (entry : Entry) (list : List Entry) → P entry → AllByRecursion P list → AllByRecursion P (put_in_order entry list)
unfolding put_in_order
each_put P entry [] here each = (here, tt)
each_put P entry (first ∷ rest) here each = by_test (is_lt (entry_cmp entry first)) (each_put P entry rest here each.1)
  where
    by_test : (b : Bool) → AllByRecursion P (put_in_order entry rest) → AllByRecursion P (cond b (entry ∷ first ∷ rest) (first ∷ put_in_order entry rest))
    by_test true later = (here, each)
    by_test false later = (each.0, later)

flips : (x y : Entry) → same_resource x y ≡ same_resource y x
flips x y = ap is_eq (entry_total.antisymm x y) ∙ back (entry_cmp y x)
  where
    back : (r : Ordering) → is_eq (ordering_reverse r) ≡ is_eq r
    back Less = refl
    back Equal = refl
    back Greater = refl

put_ascends : (entry : Entry) (list : List Entry) → AllByRecursion (λ other. same_resource entry other ≡ false) list → Ascends entry_cmp list → Ascends entry_cmp (put_in_order entry list)
unfolding put_in_order
put_ascends entry [] apart up = (tt, tt)
put_ascends entry (first ∷ rest) apart up = by_test (is_lt (entry_cmp entry first)) refl (put_ascends entry rest apart.1 up.1)
  where
    by_test : (b : Bool) → is_lt (entry_cmp entry first) ≡ b → Ascends entry_cmp (put_in_order entry rest) → Ascends entry_cmp (cond b (entry ∷ first ∷ rest) (first ∷ put_in_order entry rest))
    by_test true e later = ((e, each_above_more entry_total entry first rest e up.0), up)
    by_test false e later = (each_put (λ y. is_lt (entry_cmp first y) ≡ true) entry rest (behind entry_total first entry e (flips first entry ∙ apart.0)) up.0, later)

pub order_ascends : (list : List Entry) → IsDistinct same_resource list → Ascends entry_cmp (in_order list)
unfolding in_order IsDistinct
order_ascends [] apart = tt
order_ascends (entry ∷ rest) apart =
    put_ascends entry (in_order rest) (moved rest (in_order rest) (order_moves rest) apart.0) (order_ascends rest apart.1)
  where
    moved : (xs ys : List Entry) → IsPermutation xs ys → AllByRecursion (λ other. same_resource entry other ≡ false) xs → AllByRecursion (λ other. same_resource entry other ≡ false) ys
    moved xs ys moves each = recursion_from_All (λ other. same_resource entry other ≡ false) ys (All-permutation (λ other. same_resource entry other ≡ false) xs ys moves (All-from_recursion (λ other. same_resource entry other ≡ false) xs each))

pub sorted_is : (list sorted : List Entry) → IsDistinct same_resource list → IsPermutation list sorted → IsSortedBy (λ x y. is_lt (entry_cmp x y)) sorted → sorted ≡ in_order list
sorted_is list sorted apart moved is_sorted =
    one_order entry_total sorted (in_order list)
    (sorted_ascends entry_total sorted is_sorted (IsDistinct-IsPermutation same_resource flips list sorted moved apart))
    (order_ascends list apart)
    (λ z has. Contains-permutation list (in_order list) z (order_moves list) (Contains-permutation sorted list z (IsPermutation-sym list sorted moved) has))
    (λ z has. Contains-permutation list sorted z moved (Contains-permutation (in_order list) list z (IsPermutation-sym list (in_order list) (order_moves list)) has))

-- elements sorted by what they say
pub sorted_map : {X : Type 0} (f : X → Entry) (xs : List X) → IsSortedBy (λ x y. is_lt (entry_cmp (f x) (f y))) xs → IsSortedBy (λ x y. is_lt (entry_cmp x y)) (map f xs)
sorted_map f [] sorted = λ k d low lt. absurd (omega arith)
sorted_map {X} f (x ∷ xs) sorted = λ k d low lt.
    let size = length-map (x ∷ xs) f in
    let read = λ (i : ℕ). get_or-map f (x ∷ xs) i x d in
    subst (λ (e : Entry). is_lt (entry_cmp e (get_or (map f (x ∷ xs)) k d)) ≡ false) (sym (read (k + 1) (omega arith)))
    (subst (λ (e : Entry). is_lt (entry_cmp (f (get_or (x ∷ xs) (k + 1) x)) e) ≡ false) (sym (read k (omega arith)))
    (sorted k x (omega arith) (omega arith)))
