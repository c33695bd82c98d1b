-- The numbers by which most items are told apart ascend with the items, and what a sort by them and then by the items gives
-- is the items in order.
use Rattle.std.proofs.Common.{◌≡◌, ℕ, zero, suc, ◌+◌, ◌*◌, ◌<◌, ◌≤◌, ◌^◌, Bool, false, cond, lt-ltb, le-ltb, List, [], ◌∷◌, get_or, map, refl, sym, ap, ◌∙◌, subst, inl, inr, ◌⊎◌, add-one, arith}
use Rattle.std.specs.List.{All}
use Rattle.std.specs.List.Sorted.{IsSorted, IsPermutation}
use Rattle.std.specs.Ordering.{nat_cmp, is_lt, ordering_then, ordering_reverse}
use Rattle.std.specs.Cmp.{IsTotalOrder}
use Rattle.std.specs.Cmp.Lexicographic.{slice_cmp}
use Rattle.std.specs.declared.cmp.Ordering.{Ordering}
use Rattle.std.specs.declared.cmp.Ordering.TheVariants.{Less, Equal}
use Rattle.std.proofs.Math.Nat.{pow-succ', pow-le-pow_right}
use Rattle.std.proofs.lemmas.Bool.{true≢false, cases_lt, cases_order}
use Rattle.std.proofs.lemmas.List.Sorted.{IsPermutation-map, All-permutation}
use Rattle.sorted_lists.specs.Order.{in_order}
use Rattle.sorted_lists.proofs.CallerLemmas.{sorted_cons, sorted_first, sorted_tail, is_in_order}
use Rattle.link_base.proofs.OrderingLemmas.{less_number, equal_number}
use Rattle.pdb_publics.specs.declared.fronts.Fronted.{Fronted}
use Rattle.pdb_publics.specs.declared.rows.PublicRow.{PublicRow}
use Rattle.pdb_publics.specs.declared.keys.HashKey.{HashKey}
use Rattle.pdb_publics.specs.declared.keys.PlaceKey.{PlaceKey}
use Rattle.pdb_publics.specs.PublicOrder.{row_cmp, hash_cmp, place_cmp, hash_keys, place_keys, by_name, by_hash, by_place}
use Rattle.pdb_publics.specs.Fronts.{text_front, IsTextFront, IsRowFront, name_front, IsHashFront, IsPlaceFront, fronted_cmp}
use Rattle.pdb_publics.proofs.KeyLemmas.{row_total, one_row, hash_total, one_hash_key, place_total, one_place_key}

-- ---- the number of the first bytes of a text

pub no_front : (text : List ℕ) → IsTextFront 0 text 0
unfolding text_front
no_front text = record { is = refl; bytes = λ k lt. absurd (omega (arith, lt)) }

-- a byte more
pub front_made : (n front byte : ℕ) (text : List ℕ) → IsTextFront n text front → byte ≡ get_or text n 0 → byte < 256 → IsTextFront (n + 1) text (256 * front + byte)
unfolding text_front
front_made n front byte text was is small = record {
  is = let more : text_front (n + 1) text ≡ 256 * text_front n text + get_or text n 0 = ap (λ (k : ℕ). text_front k text) (add-one n) in let before = was.is in omega (arith, more, before, is);
  bytes = λ k lt. elim (cases_lt k n) [
    | inl below ↦ was.bytes k below
    | inr above ↦ let same : n ≡ k = omega (arith, lt, above) in subst (λ (m : ℕ). get_or text m 0 < 256) same (omega (arith, is, small))
  ];
}

pub front_fits : (n front byte : ℕ) → front < 256 ^ n → n < 8 → byte < 256 → 256 * front + byte < 18446744073709551616
front_fits n front byte lt below small = let most : 256 ^ n ≤ 256 ^ 7 = pow-le-pow_right {n = 256} (omega arith) {i = n} {j = 7} (omega (arith, below)) in omega (arith, lt, most, small)

pub front_small : (n front byte : ℕ) → front < 256 ^ n → byte < 256 → 256 * front + byte < 256 ^ (n + 1)
front_small n front byte lt small =
    let power : 256 ^ (n + 1) ≡ 256 ^ suc n = ap (λ (k : ℕ). 256 ^ k) (add-one n) in
    omega (arith, lt, small, power, pow-succ' 256 n)

Bytes : ℕ → List ℕ → Type 0
Bytes n text = (k : ℕ) → k < n → get_or text k 0 < 256

fewer : (n : ℕ) (text : List ℕ) → Bytes (suc n) text → Bytes n text
unfolding Bytes
fewer n text bytes k lt = bytes k (omega (arith, lt))

same_front : (n : ℕ) (xs ys : List ℕ) → Bytes (suc n) xs → Bytes (suc n) ys → text_front (suc n) xs ≡ text_front (suc n) ys → (text_front n xs ≡ text_front n ys) × (get_or xs n 0 ≡ get_or ys n 0)
unfolding Bytes text_front
same_front n xs ys left right e =
    let x = left n (omega arith) in
    let y = right n (omega arith) in
    (omega (arith, e, x, y), omega (arith, e, x, y))

-- equal numbers are those of equal bytes
same_bytes : (n : ℕ) (xs ys : List ℕ) → Bytes n xs → Bytes n ys → text_front n xs ≡ text_front n ys → (k : ℕ) → k < n → get_or xs k 0 ≡ get_or ys k 0
same_bytes zero xs ys left right e k lt = absurd (omega (arith, lt))
same_bytes (suc n) xs ys left right e k lt =
    let both = same_front n xs ys left right e in
    elim (cases_lt k n) [
      | inl below ↦ same_bytes n xs ys (fewer n xs left) (fewer n ys right) both.0 k below
      | inr above ↦ let same : n ≡ k = omega (arith, lt, above) in subst (λ (m : ℕ). get_or xs m 0 ≡ get_or ys m 0) same both.1
    ]

then_less : (r s : Ordering) → r ≡ Less → ordering_then r s ≡ Less
then_less r s e = ap (λ (o : Ordering). ordering_then o s) e

then_next : (r s : Ordering) → r ≡ Equal → s ≡ Less → ordering_then r s ≡ Less
then_next r s e less = ap (λ (o : Ordering). ordering_then o s) e ∙ less

-- the first byte that differs decides
first_difference : (n : ℕ) (xs ys : List ℕ) → ((k : ℕ) → k < n → get_or xs k 0 ≡ get_or ys k 0) → get_or xs n 0 < get_or ys n 0 → slice_cmp nat_cmp xs ys ≡ Less
first_difference n [] [] same lt = absurd (omega (arith, lt))
first_difference n [] (y ∷ ys) same lt = refl
first_difference n (x ∷ xs) [] same lt = absurd (omega (arith, lt))
first_difference zero (x ∷ xs) (y ∷ ys) same lt = then_less (nat_cmp x y) (slice_cmp nat_cmp xs ys) (less_number x y lt)
first_difference (suc n) (x ∷ xs) (y ∷ ys) same lt =
    then_next (nat_cmp x y) (slice_cmp nat_cmp xs ys) (equal_number x y (same 0 (omega arith)))
    (first_difference n xs ys (λ k below. same (suc k) (omega (arith, below))) lt)

last_decides : (n : ℕ) (xs ys : List ℕ) → Bytes (suc n) xs → Bytes (suc n) ys → text_front (suc n) xs < text_front (suc n) ys → text_front n ys ≤ text_front n xs → (text_front n xs ≡ text_front n ys) × (get_or xs n 0 < get_or ys n 0)
unfolding Bytes text_front
last_decides n xs ys left right lt above =
    let x = left n (omega arith) in
    let y = right n (omega arith) in
    (omega (arith, lt, above, x, y), omega (arith, lt, above, x, y))

less_front : (n : ℕ) (xs ys : List ℕ) → Bytes n xs → Bytes n ys → text_front n xs < text_front n ys → slice_cmp nat_cmp xs ys ≡ Less
unfolding text_front
less_front zero xs ys left right lt = absurd (omega (arith, lt))
less_front (suc n) xs ys left right lt =
    elim (cases_lt (text_front n xs) (text_front n ys)) [
      | inl below ↦ less_front n xs ys (fewer n xs left) (fewer n ys right) below
      | inr above ↦ let last = last_decides n xs ys left right lt above in first_difference n xs ys (same_bytes n xs ys (fewer n xs left) (fewer n ys right) last.0) last.1
    ]

pub less_text : (n : ℕ) (xs ys : List ℕ) (a b : ℕ) → IsTextFront n xs a → IsTextFront n ys b → a < b → slice_cmp nat_cmp xs ys ≡ Less
unfolding Bytes
less_text n xs ys a b left right lt = let first = left.is in let second = right.is in less_front n xs ys left.bytes right.bytes (omega (arith, first, second, lt))

-- ---- the numbers of rows and keys ascend with them

pub less_row : (a b : PublicRow) (m n : ℕ) → IsRowFront a m → IsRowFront b n → m < n → row_cmp a b ≡ Less
less_row a b m n left right lt = then_less (slice_cmp nat_cmp a.name b.name) _ (less_text 8 a.name b.name m n left right lt)

pub two_bytes : (a b : ℕ) (text : List ℕ) → a ≡ get_or text 0 0 → a < 256 → b ≡ get_or text 1 0 → b < 256 → IsTextFront 2 text (256 * a + b)
unfolding text_front
two_bytes a b text first small second small' = record {
  is = omega (arith, first, second);
  bytes = λ k lt. elim (cases_lt k 1) [
    | inl below ↦ let same : 0 ≡ k = omega (arith, below) in subst (λ (m : ℕ). get_or text m 0 < 256) same (omega (arith, first, small))
    | inr above ↦ let same : 1 ≡ k = omega (arith, lt, above) in subst (λ (m : ℕ). get_or text m 0 < 256) same (omega (arith, second, small'))
  ];
}

two_are_small : (text : List ℕ) (first : ℕ) → IsTextFront 2 text first → first < 65536
unfolding text_front
two_are_small text first front =
    let is = front.is in
    let a = front.bytes 0 (omega arith) in
    let b = front.bytes 1 (omega arith) in
    omega (arith, is, a, b)

name_decides : (len len' first first' : ℕ) → first < 65536 → first' < 65536 → name_front len first < name_front len' first' → (len < len') ⊎ ((len ≡ len') × (first < first'))
name_decides len len' first first' small small' lt =
    elim (cases_lt len 65536) [
      | inl below ↦ elim (cases_order len len') [
        | inl same ↦ inr (same, omega (arith, same, below, below_is len first below, below_is len' first' (omega (arith, same, below)), lt))
        | inr (inl less) ↦ inl less
        | inr (inr more) ↦ absurd (omega (arith, more, below, below_is len first below, below_is len' first' (omega (arith, more, below)), small', lt))
      ]
      | inr above ↦ absurd (omega (arith, above_is len first above, at_most len' first' small', lt))
    ]
  where
    below_is : (len first : ℕ) → len < 65536 → name_front len first ≡ 65536 * len + first
    below_is len first lt = ap (λ (b : Bool). cond b (65536 * len + first) 4294967295) (lt-ltb len 65536 lt)

    above_is : (len first : ℕ) → 65536 ≤ len → name_front len first ≡ 4294967295
    above_is len first le = ap (λ (b : Bool). cond b (65536 * len + first) 4294967295) (le-ltb len 65536 le)

    at_most : (len first : ℕ) → first < 65536 → name_front len first ≤ 4294967295
    at_most len first small =
        elim (cases_lt len 65536) [
          | inl below ↦ omega (arith, below, small, below_is len first below)
          | inr above ↦ omega (arith, above_is len first above)
        ]

name_small : (len first : ℕ) → first < 65536 → name_front len first < 4294967296
name_small len first small =
    elim (cases_lt len 65536) [
      | inl below ↦ let is = ap (λ (b : Bool). cond b (65536 * len + first) 4294967295) (lt-ltb len 65536 below) in omega (arith, below, small, is)
      | inr above ↦ let is = ap (λ (b : Bool). cond b (65536 * len + first) 4294967295) (le-ltb len 65536 above) in omega (arith, is)
    ]

pub less_hash_key : (a b : HashKey) (m n : ℕ) → IsHashFront a m → IsHashFront b n → m < n → hash_cmp a b ≡ Less
less_hash_key a b m n left right lt =
    let small = two_are_small a.lowered left.first left.text in
    let small' = two_are_small b.lowered right.first right.text in
    let is = left.is in
    let is' = right.is in
    let fits = name_small a.len left.first small in
    let fits' = name_small b.len right.first small' in
    elim (cases_order a.bucket b.bucket) [
      | inl same ↦ then_next (nat_cmp a.bucket b.bucket) _ (equal_number a.bucket b.bucket same) (elim (name_decides a.len b.len left.first right.first small small' (omega (arith, is, is', same, lt))) [
        | inl less ↦ then_less (nat_cmp a.len b.len) _ (less_number a.len b.len less)
        | inr (same_len, less) ↦ then_next (nat_cmp a.len b.len) _ (equal_number a.len b.len same_len) (then_less (slice_cmp nat_cmp a.lowered b.lowered) _ (less_text 2 a.lowered b.lowered left.first right.first left.text right.text less))
      ])
      | inr (inl less) ↦ then_less (nat_cmp a.bucket b.bucket) _ (less_number a.bucket b.bucket less)
      | inr (inr more) ↦ absurd (omega (arith, is, is', more, fits, fits', lt))
    ]

pub less_place_key : (a b : PlaceKey) (m n : ℕ) → IsPlaceFront a m → IsPlaceFront b n → m < n → place_cmp a b ≡ Less
less_place_key a b m n left right lt =
    elim (cases_order a.section b.section) [
      | inl same ↦ then_next (nat_cmp a.section b.section) _ (equal_number a.section b.section same) (then_less (nat_cmp a.offset b.offset) _ (less_number a.offset b.offset (omega (arith, left.is, right.is, same, lt))))
      | inr (inl less) ↦ then_less (nat_cmp a.section b.section) _ (less_number a.section b.section less)
      | inr (inr more) ↦ absurd (omega (arith, left.is, right.is, left.small, more, lt))
    ]

-- ---- items behind their numbers

module _ {X : Type 0} (R : X → X → Ordering) (o : IsTotalOrder R) (F : X → ℕ → Type 0) (ascends : (a b : X) (m n : ℕ) → F a m → F b n → m < n → R a b ≡ Less) where
  item : Fronted X → X
  item key = key.item.now

  Have : List (Fronted X) → Type 0
  Have keys = All (λ key. F key.item.now key.front) keys

  backwards : (r s : Ordering) → r ≡ ordering_reverse s → s ≡ Less → is_lt r ≡ false
  backwards r s e less = ap is_lt (e ∙ ap ordering_reverse less)

  not_before : (a b : Fronted X) → F a.item.now a.front → F b.item.now b.front → is_lt (fronted_cmp R b a) ≡ false → is_lt (R b.item.now a.item.now) ≡ false
  not_before a b left right after =
      elim (cases_order b.front a.front) [
        | inl same ↦ sym (ap (λ (r : Ordering). is_lt (ordering_then r (R b.item.now a.item.now))) (equal_number b.front a.front same)) ∙ after
        | inr (inl below) ↦ absurd (true≢false (sym (ap (λ (r : Ordering). is_lt (ordering_then r (R b.item.now a.item.now))) (less_number b.front a.front below)) ∙ after))
        | inr (inr above) ↦ backwards (R b.item.now a.item.now) (R a.item.now b.item.now) (o.antisymm b.item.now a.item.now) (ascends a.item.now b.item.now a.front b.front left right above)
      ]

  sorted_items : (keys : List (Fronted X)) → Have keys → IsSorted (fronted_cmp R) keys → IsSorted R (map item keys)
  unfolding Have item
  sorted_items [] each up = λ k d low lt. absurd (omega (arith, lt))
  sorted_items (a ∷ []) each up = λ k d low lt. absurd (omega (arith, lt))
  sorted_items (a ∷ b ∷ keys) each up =
      sorted_cons R (item a) (map item (b ∷ keys))
      (λ d some. not_before a b (each 0 a (omega arith)) (each 1 b (omega arith)) (sorted_first (fronted_cmp R) a b keys up))
      (sorted_items (b ∷ keys) (λ i e low. each (suc i) e (omega (arith, low))) (sorted_tail (fronted_cmp R) a (b ∷ keys) up))

  pub items_in_order : ((a b : X) → R a b ≡ Equal → a ≡ b) → (items taken : List X) (given sorted : List (Fronted X))
      → map (λ key. key.item.now) given ≡ items → All (λ key. F key.item.now key.front) given → IsPermutation given sorted → IsSorted (fronted_cmp R) sorted
      → taken ≡ map (λ key. key.item.now) sorted → taken ≡ in_order R items
  unfolding Have item
  items_in_order same items taken given sorted are each moved up is =
      is
      ∙ is_in_order R o same (map item given) (map item sorted) (IsPermutation-map item given sorted moved) (sorted_items sorted (All-permutation (λ key. F key.item.now key.front) given sorted moved each) up)
      ∙ ap (in_order R) are

pub rows_sorted : (rows taken : List PublicRow) (given sorted : List (Fronted PublicRow))
    → map (λ key. key.item.now) given ≡ rows → All (λ key. IsRowFront key.item.now key.front) given → IsPermutation given sorted → IsSorted (fronted_cmp row_cmp) sorted
    → taken ≡ map (λ key. key.item.now) sorted → taken ≡ by_name rows
rows_sorted = items_in_order row_cmp row_total IsRowFront less_row one_row

pub hash_keys_sorted : (rows : List PublicRow) (keys taken : List HashKey) (given sorted : List (Fronted HashKey))
    → keys ≡ hash_keys 0 rows → map (λ key. key.item.now) given ≡ keys → All (λ key. IsHashFront key.item.now key.front) given → IsPermutation given sorted → IsSorted (fronted_cmp hash_cmp) sorted
    → taken ≡ map (λ key. key.item.now) sorted → taken ≡ by_hash rows
hash_keys_sorted rows keys taken given sorted made are each moved up is =
    items_in_order hash_cmp hash_total IsHashFront less_hash_key one_hash_key keys taken given sorted are each moved up is ∙ ap (in_order hash_cmp) made

pub place_keys_sorted : (rows : List PublicRow) (keys taken : List PlaceKey) (given sorted : List (Fronted PlaceKey))
    → keys ≡ place_keys 0 rows → map (λ key. key.item.now) given ≡ keys → All (λ key. IsPlaceFront key.item.now key.front) given → IsPermutation given sorted → IsSorted (fronted_cmp place_cmp) sorted
    → taken ≡ map (λ key. key.item.now) sorted → taken ≡ by_place rows
place_keys_sorted rows keys taken given sorted made are each moved up is =
    items_in_order place_cmp place_total IsPlaceFront less_place_key one_place_key keys taken given sorted are each moved up is ∙ ap (in_order place_cmp) made
