-- The orders of publics, and the keys of rows whose records stand one behind the other.
use Rattle.std.proofs.Common.{◌≡◌, ℕ, ◌+◌, ◌*◌, ◌<◌, ◌≤◌, Bool, true, false, List, [], ◌∷◌, ◌++◌, length, get_or, take, drop, refl, sym, ap, ◌∙◌, arith, rules}
use Rattle.std.specs.List.{All, flat_map}
use Rattle.std.specs.List.Sorted.{IsSorted, IsPermutation}
use Rattle.std.specs.Ordering.{is_lt, is_gt, nat_cmp, bool_cmp}
use Rattle.std.specs.Cmp.{IsTotalOrder}
use Rattle.std.specs.Cmp.Lexicographic.{slice_cmp}
use Rattle.std.specs.Cmp.Rules.{comparing}
use Rattle.std.specs.declared.cmp.Ordering.TheVariants.{Equal}
use Rattle.std.specs.Char.{to_ascii_lowercase}
use Rattle.std.proofs.lemmas.Bool.{true≢false}
use Rattle.std.proofs.lemmas.List.{take_more, drop_more, take_at, drop_at, length-map}
use Rattle.std.proofs.lemmas.List.Sums.{sum_by-cons, sum_by_more}
use Rattle.std.proofs.lemmas.List.Elements.{All-nil, All-cons}
use Rattle.std.proofs.lemmas.List.Sorted.{All-permutation, length_permutation}
use Rattle.sorted_lists.proofs.CallerLemmas.{is_in_order, order_permutes}
use Rattle.link_base.proofs.OrderingLemmas.{one_number, then_both, one_text}
use Rattle.pdb_publics.specs.declared.rows.PublicRow.{PublicRow}
use Rattle.pdb_publics.specs.declared.keys.HashKey.{HashKey}
use Rattle.pdb_publics.specs.declared.keys.PlaceKey.{PlaceKey}
use Rattle.pdb_publics.specs.NameHash.{bucket}
use Rattle.pdb_publics.specs.PublicOrder.{row_cmp, hash_cmp, place_cmp, by_name, record_size, extent, lowered, hash_key, hash_keys, place_key, place_keys, IsKey, by_hash, by_place}

-- ---- the orders are total, and what ties is one

pub row_total : IsTotalOrder row_cmp
row_total = search (comparing, rules) depth 8

pub hash_total : IsTotalOrder hash_cmp
hash_total = search (comparing, rules) depth 8

pub place_total : IsTotalOrder place_cmp
place_total = search (comparing, rules) depth 8

one_bool : (x y : Bool) → bool_cmp x y ≡ Equal → x ≡ y
one_bool true true e = refl
one_bool false false e = refl
one_bool true false e = absurd (true≢false (ap is_gt e))
one_bool false true e = absurd (true≢false (ap is_lt e))

pub one_row : (a b : PublicRow) → row_cmp a b ≡ Equal → a ≡ b
one_row a b e =
    let name = then_both (slice_cmp nat_cmp a.name b.name) _ e in
    let section = then_both (nat_cmp a.section b.section) _ name.1 in
    let offset = then_both (nat_cmp a.offset b.offset) _ section.1 in
    let n = one_text a.name b.name name.0 in
    let s = one_number a.section b.section section.0 in
    let o = one_number a.offset b.offset offset.0 in
    let f = one_bool a.function b.function offset.1 in
    λ i. record { name = n i; section = s i; offset = o i; function = f i }

pub one_hash_key : (a b : HashKey) → hash_cmp a b ≡ Equal → a ≡ b
one_hash_key a b e =
    let bucket = then_both (nat_cmp a.bucket b.bucket) _ e in
    let len = then_both (nat_cmp a.len b.len) _ bucket.1 in
    let text = then_both (slice_cmp nat_cmp a.lowered b.lowered) _ len.1 in
    let u = one_number a.bucket b.bucket bucket.0 in
    let l = one_number a.len b.len len.0 in
    let t = one_text a.lowered b.lowered text.0 in
    let r = one_number a.record_offset b.record_offset text.1 in
    λ i. record { bucket = u i; len = l i; lowered = t i; record_offset = r i }

pub one_place_key : (a b : PlaceKey) → place_cmp a b ≡ Equal → a ≡ b
one_place_key a b e =
    let section = then_both (nat_cmp a.section b.section) _ e in
    let offset = then_both (nat_cmp a.offset b.offset) _ section.1 in
    let s = one_number a.section b.section section.0 in
    let o = one_number a.offset b.offset offset.0 in
    let r = one_number a.record_offset b.record_offset offset.1 in
    λ i. record { section = s i; offset = o i; record_offset = r i }

pub rows_one_order : (rows sorted : List PublicRow) → IsPermutation rows sorted → IsSorted row_cmp sorted → sorted ≡ by_name rows
rows_one_order rows sorted moved up = is_in_order row_cmp row_total one_row rows sorted moved up

pub hash_keys_one_order : (rows : List PublicRow) (sorted : List HashKey) → IsPermutation (hash_keys 0 rows) sorted → IsSorted hash_cmp sorted → sorted ≡ by_hash rows
hash_keys_one_order rows sorted moved up = is_in_order hash_cmp hash_total one_hash_key (hash_keys 0 rows) sorted moved up

pub place_keys_one_order : (rows : List PublicRow) (sorted : List PlaceKey) → IsPermutation (place_keys 0 rows) sorted → IsSorted place_cmp sorted → sorted ≡ by_place rows
place_keys_one_order rows sorted moved up = is_in_order place_cmp place_total one_place_key (place_keys 0 rows) sorted moved up

-- ---- one row more

pub hash_keys_more : (offset : ℕ) (rows : List PublicRow) (row : PublicRow) → hash_keys offset (rows ++ row ∷ []) ≡ hash_keys offset rows ++ hash_key (offset + extent rows) row ∷ []
unfolding hash_keys
hash_keys_more offset [] row = let place : offset ≡ offset + 0 = omega arith in ap (λ (n : ℕ). hash_key n row ∷ []) place
hash_keys_more offset (first ∷ rows) row =
    let more = sum_by-cons (λ (r : PublicRow). record_size (length r.name)) first rows in
    let place : offset + record_size (length first.name) + extent rows ≡ offset + extent (first ∷ rows) = omega (arith, more) in
    ap (λ (keys : List HashKey). hash_key offset first ∷ keys)
    (hash_keys_more (offset + record_size (length first.name)) rows row ∙ ap (λ (n : ℕ). hash_keys (offset + record_size (length first.name)) rows ++ hash_key n row ∷ []) place)

pub place_keys_more : (offset : ℕ) (rows : List PublicRow) (row : PublicRow) → place_keys offset (rows ++ row ∷ []) ≡ place_keys offset rows ++ place_key (offset + extent rows) row ∷ []
unfolding place_keys
place_keys_more offset [] row = let place : offset ≡ offset + 0 = omega arith in ap (λ (n : ℕ). place_key n row ∷ []) place
place_keys_more offset (first ∷ rows) row =
    let more = sum_by-cons (λ (r : PublicRow). record_size (length r.name)) first rows in
    let place : offset + record_size (length first.name) + extent rows ≡ offset + extent (first ∷ rows) = omega (arith, more) in
    ap (λ (keys : List PlaceKey). place_key offset first ∷ keys)
    (place_keys_more (offset + record_size (length first.name)) rows row ∙ ap (λ (n : ℕ). place_keys (offset + record_size (length first.name)) rows ++ place_key n row ∷ []) place)

-- ---- what the keys are

pub each_is_key : (offset : ℕ) (rows : List PublicRow) → offset + extent rows ≤ 1073741824 → All IsKey (hash_keys offset rows)
unfolding hash_keys
each_is_key offset [] small = All-nil IsKey
each_is_key offset (row ∷ rows) small =
    let more = sum_by-cons (λ (r : PublicRow). record_size (length r.name)) row rows in
    All-cons IsKey (hash_key offset row) (hash_keys (offset + record_size (length row.name)) rows)
    (record { bucket = omega arith; record_offset = omega (arith, small) })
    (each_is_key (offset + record_size (length row.name)) rows (omega (arith, more, small)))

pub length_hash_keys : (offset : ℕ) (rows : List PublicRow) → length (hash_keys offset rows) ≡ length rows
unfolding hash_keys
length_hash_keys offset [] = refl
length_hash_keys offset (row ∷ rows) = let rest = length_hash_keys (offset + record_size (length row.name)) rows in omega (arith, rest)

pub length_place_keys : (offset : ℕ) (rows : List PublicRow) → length (place_keys offset rows) ≡ length rows
unfolding place_keys
length_place_keys offset [] = refl
length_place_keys offset (row ∷ rows) = let rest = length_place_keys (offset + record_size (length row.name)) rows in omega (arith, rest)

pub hashed_are_keys : (rows : List PublicRow) → extent rows ≤ 1073741824 → All IsKey (by_hash rows)
hashed_are_keys rows small = All-permutation IsKey (hash_keys 0 rows) (by_hash rows) (order_permutes hash_cmp (hash_keys 0 rows)) (each_is_key 0 rows (omega (arith, small)))

pub length_by_hash : (rows : List PublicRow) → length (by_hash rows) ≡ length rows
length_by_hash rows = length_permutation (hash_keys 0 rows) (by_hash rows) (order_permutes hash_cmp (hash_keys 0 rows)) ∙ length_hash_keys 0 rows

pub length_by_place : (rows : List PublicRow) → length (by_place rows) ≡ length rows
length_by_place rows = length_permutation (place_keys 0 rows) (by_place rows) (order_permutes place_cmp (place_keys 0 rows)) ∙ length_place_keys 0 rows

-- a record has sixteen bytes at least
pub rows_are_few : (rows : List PublicRow) → 16 * length rows ≤ extent rows
rows_are_few [] = omega arith
rows_are_few (row ∷ rows) =
    let more = sum_by-cons (λ (r : PublicRow). record_size (length r.name)) row rows in
    let rest = rows_are_few rows in
    omega (arith, more, rest)

-- ---- the row of an index more

abbrev pub lowered_from : ℕ → List PublicRow → List ℕ
lowered_from i rows = flat_map (λ row. lowered row.name) (drop i rows)

pub record HashKeyMade (rows : List PublicRow) (i place : ℕ) (rest : List ℕ) (keys : List HashKey) : Type 0 where
  pub place_is : place ≡ extent (take i rows)
  pub left : rest ≡ lowered_from i rows
  pub made : keys ≡ hash_keys 0 (take i rows)

extent_more : (rows : List PublicRow) (i place size : ℕ) (row : PublicRow) → i < length rows → row ≡ get_or rows i row → place ≡ extent (take i rows) → size ≡ record_size (length row.name) → place + size ≡ extent (take (i + 1) rows)
extent_more rows i place size row lt is_row is_place is_size =
    let more = sum_by_more (λ (r : PublicRow). record_size (length r.name)) rows i row lt in
    let here = ap (λ (r : PublicRow). record_size (length r.name)) is_row in
    omega (arith, more, here, is_place, is_size)

pub hash_key_made : (rows : List PublicRow) (i place size len number : ℕ) (row : PublicRow) (rest text others : List ℕ) (old new : List HashKey)
    → i < length rows → row ≡ get_or rows i row → HashKeyMade rows i place rest old → len ≡ length row.name → text ≡ take len rest → others ≡ drop len rest → number ≡ bucket row.name → size ≡ record_size len
    → new ≡ old ++ (record { bucket = number; len = len; lowered = text; record_offset = place }) ∷ [] → HashKeyMade rows (i + 1) (place + size) others new
hash_key_made rows i place size len number row rest text others old new lt is_row was is_len is_text is_others is_number is_size grown = record {
  place_is = extent_more rows i place size row lt is_row was.place_is (is_size ∙ ap record_size is_len);
  left = is_others ∙ ap (drop len) parts ∙ drop_at (lowered row.name) (lowered_from (i + 1) rows) len long;
  made = grown ∙ ap (λ (key : HashKey). old ++ key ∷ []) key ∙ ap (λ (keys : List HashKey). keys ++ hash_key (0 + extent (take i rows)) row ∷ []) was.made ∙ sym (hash_keys_more 0 (take i rows) row)
      ∙ ap (λ (r : PublicRow). hash_keys 0 (take i rows ++ r ∷ [])) is_row ∙ ap (hash_keys 0) (sym (take_more rows i row lt));
}
  where
    long : length (lowered row.name) ≡ len
    long = length-map row.name to_ascii_lowercase ∙ sym is_len

    parts : rest ≡ lowered row.name ++ lowered_from (i + 1) rows
    parts = was.left ∙ ap (flat_map (λ (r : PublicRow). lowered r.name)) (drop_more rows i row lt) ∙ ap (λ (r : PublicRow). lowered r.name ++ lowered_from (i + 1) rows) (sym is_row)

    front : text ≡ lowered row.name
    front = is_text ∙ ap (take len) parts ∙ take_at (lowered row.name) (lowered_from (i + 1) rows) len long

    there : place ≡ 0 + extent (take i rows)
    there = let e = was.place_is in omega (arith, e)

    key : (record { bucket = number; len = len; lowered = text; record_offset = place }) ≡ hash_key (0 + extent (take i rows)) row
    key = λ i. record { bucket = is_number i; len = is_len i; lowered = front i; record_offset = there i }

pub record PlaceKeyMade (rows : List PublicRow) (i place : ℕ) (keys : List PlaceKey) : Type 0 where
  pub place_is : place ≡ extent (take i rows)
  pub made : keys ≡ place_keys 0 (take i rows)

pub place_key_made : (rows : List PublicRow) (i place size len : ℕ) (row : PublicRow) (old new : List PlaceKey)
    → i < length rows → row ≡ get_or rows i row → PlaceKeyMade rows i place old → len ≡ length row.name → size ≡ record_size len
    → new ≡ old ++ (record { section = row.section; offset = row.offset; record_offset = place }) ∷ [] → PlaceKeyMade rows (i + 1) (place + size) new
place_key_made rows i place size len row old new lt is_row was is_len is_size grown = record {
  place_is = extent_more rows i place size row lt is_row was.place_is (is_size ∙ ap record_size is_len);
  made = grown ∙ ap (λ (key : PlaceKey). old ++ key ∷ []) key ∙ ap (λ (keys : List PlaceKey). keys ++ place_key (0 + extent (take i rows)) row ∷ []) was.made ∙ sym (place_keys_more 0 (take i rows) row)
      ∙ ap (λ (r : PublicRow). place_keys 0 (take i rows ++ r ∷ [])) is_row ∙ ap (place_keys 0) (sym (take_more rows i row lt));
}
  where
    there : place ≡ 0 + extent (take i rows)
    there = let e = was.place_is in omega (arith, e)

    key : (record { section = row.section; offset = row.offset; record_offset = place }) ≡ place_key (0 + extent (take i rows)) row
    key = λ i. record { section = row.section; offset = row.offset; record_offset = there i }
