-- The parts of a hash part, one item more at a time.
use Rattle.std.proofs.Common.{◌≡◌, ℕ, zero, suc, ◌+◌, ◌*◌, ◌^◌, ◌<◌, ◌≤◌, Bool, true, false, cond, eqb, ltb, le-ltb, List, [], ◌∷◌, ◌++◌, length, get_or, set, take, drop, map, replicate, sum, refl, sym, ap, ◌∙◌, inl, inr, append_assoc, add-one, arith}
use Rattle.std.specs.List.{range_with_len, count_by, flat_map}
use Rattle.std.proofs.Math.Nat.{pow-succ'}
use Rattle.std.proofs.lemmas.Bool.Decides.{eqb_tells, nat_tests}
use Rattle.std.proofs.lemmas.List.{append-nil, drop_all, length-take, get_or_default, ext_get_or, length-set, get_or-set_same, get_or-set_other, drop_more, take_more, map-append, take_all}
use Rattle.std.proofs.lemmas.List.FromFn.{length-map-range_with_len, get_or-map-range_with_len, map-range_with_len_more}
use Rattle.std.proofs.lemmas.List.Sums.{sum_by-cons, sum_by_push, sum_by_more, count_by-le-length}
use Rattle.std.specs.Char.{to_ascii_lowercase}
use Rattle.link_base.specs.Bytes.{number_bytes}
use Rattle.link_base.proofs.CallerLemmas.{length-number_bytes}
use Rattle.pdb_publics.specs.declared.keys.HashKey.{HashKey}
use Rattle.pdb_publics.specs.declared.rows.PublicRow.{PublicRow}
use Rattle.pdb_publics.specs.PublicOrder.{lowered}
use Rattle.pdb_publics.specs.PublicStreams.{count, counts, bit_of, bits, bitmap_byte, word_of, words}

-- ---- how many keys have each bucket

abbrev indicator : Bool → ℕ
indicator b = cond b 1 0

pub length_counts : (keys : List HashKey) → length (counts keys) ≡ 4096
unfolding counts
length_counts keys = length-map-range_with_len (count keys) 0 4096

pub counts_at : (keys : List HashKey) (bucket : ℕ) → bucket < 4096 → get_or (counts keys) bucket 0 ≡ count keys bucket
unfolding counts
counts_at keys bucket lt = get_or-map-range_with_len (count keys) 0 4096 bucket bucket 0 lt (omega arith)

zeros : (f : ℕ → ℕ) (a n : ℕ) → ((k : ℕ) → f k ≡ 0) → map f (range_with_len a n) ≡ replicate n 0
zeros f a zero each = refl
zeros f a (suc n) each = ap (λ (x : ℕ). x ∷ map f (range_with_len (a + 1) n)) (each a) ∙ ap (λ (xs : List ℕ). 0 ∷ xs) (zeros f (a + 1) n each)

pub no_counts : replicate 4096 0 ≡ counts []
unfolding counts
no_counts = sym (zeros (count []) 0 4096 (λ k. refl))

-- a key more
pub counts_more : (keys : List HashKey) (key : HashKey) → key.bucket < 4096 → set (counts keys) key.bucket (get_or (counts keys) key.bucket 0 + 1) ≡ counts (keys ++ key ∷ [])
counts_more keys key lt =
    ext_get_or 0 _ _ (length-set (counts keys) key.bucket _ ∙ length_counts keys ∙ sym (length_counts (keys ++ key ∷ [])))
    (λ i inside.
    let long = length-set (counts keys) key.bucket (get_or (counts keys) key.bucket 0 + 1) in
    let all = length_counts keys in
    let here : i < 4096 = omega (arith, inside, long, all) in
    let new = counts_at (keys ++ key ∷ []) i here in
    let pushed = sum_by_push (λ (k : HashKey). cond (eqb k.bucket i) 1 0) keys key in
    elim (eqb_tells key.bucket i) [
      | inl same ↦
          let old = counts_at keys i here in
          let one : indicator (eqb key.bucket i) ≡ 1 = ap indicator same.0 in
          let at : get_or (set (counts keys) key.bucket (get_or (counts keys) key.bucket 0 + 1)) i 0 ≡ get_or (counts keys) i 0 + 1 =
          ap (λ (k : ℕ). get_or (set (counts keys) k (get_or (counts keys) k 0 + 1)) i 0) same.1 ∙ get_or-set_same (counts keys) i (get_or (counts keys) i 0 + 1) 0 (omega (arith, here, all)) in
          omega (arith, at, old, new, pushed, one)
      | inr other ↦
          let old = counts_at keys i here in
          let none : indicator (eqb key.bucket i) ≡ 0 = ap indicator other.0 in
          let at = get_or-set_other (counts keys) key.bucket i (get_or (counts keys) key.bucket 0 + 1) 0 (λ e. other.1 (sym e)) in
          omega (arith, at, old, new, pushed, none)
    ])

-- the key of an index more
pub key_counted : (keys : List HashKey) (i v : ℕ) (key : HashKey) (items : List ℕ) → items ≡ counts (take i keys) → i < length keys → key ≡ get_or keys i key → key.bucket < 4096 → v ≡ get_or items key.bucket v → set items key.bucket (v + 1) ≡ counts (take (i + 1) keys)
key_counted keys i v key items is lt is_key small read =
    let old = take i keys in
    let all = length_counts old in
    let inside : key.bucket < length items = omega (arith, all, small, ap length is) in
    let value : v ≡ get_or (counts old) key.bucket 0 = read ∙ get_or_default items key.bucket v 0 inside ∙ ap (λ (xs : List ℕ). get_or xs key.bucket 0) is in
    ap (λ (xs : List ℕ). set xs key.bucket (v + 1)) is
    ∙ ap (λ (n : ℕ). set (counts old) key.bucket (n + 1)) value
    ∙ counts_more old key small
    ∙ ap (λ (k : HashKey). counts (old ++ k ∷ [])) is_key
    ∙ ap counts (sym (take_more keys i key lt))

pub count_small : (keys : List HashKey) (i v : ℕ) (key : HashKey) (items : List ℕ) → items ≡ counts (take i keys) → key.bucket < 4096 → v ≡ get_or items key.bucket v → v ≤ length keys
count_small keys i v key items is small read =
    let old = take i keys in
    let all = length_counts old in
    let inside : key.bucket < length items = omega (arith, all, small, ap length is) in
    let value : v ≡ count old key.bucket = read ∙ get_or_default items key.bucket v 0 inside ∙ ap (λ (xs : List ℕ). get_or xs key.bucket 0) is ∙ counts_at old key.bucket small in
    let most = count_by-le-length (λ (k : HashKey). eqb k.bucket key.bucket) old in
    let cut = length-take i keys in
    omega (arith, value, most, cut)

-- those of the buckets below one are the keys below it
pub below_more : (keys : List HashKey) (bucket : ℕ) → count_by (λ key. ltb key.bucket bucket) keys + count keys bucket ≡ count_by (λ key. ltb key.bucket (suc bucket)) keys
below_more [] bucket = refl
below_more (key ∷ keys) bucket =
    let rest = below_more keys bucket in
    let a = sum_by-cons (λ (k : HashKey). cond (ltb k.bucket bucket) 1 0) key keys in
    let b = sum_by-cons (λ (k : HashKey). cond (eqb k.bucket bucket) 1 0) key keys in
    let c = sum_by-cons (λ (k : HashKey). cond (ltb k.bucket (suc bucket)) 1 0) key keys in
    let one = step key.bucket bucket in
    omega (arith, rest, a, b, c, one)
  where
    step : (m n : ℕ) → indicator (ltb m n) + indicator (eqb m n) ≡ indicator (ltb m (suc n))
    step m n = grind (arith, nat_tests)

none_below : (keys : List HashKey) → count_by (λ key. ltb key.bucket 0) keys ≡ 0
none_below [] = refl
none_below (key ∷ keys) =
    let rest = none_below keys in
    let a = sum_by-cons (λ (k : HashKey). cond (ltb k.bucket 0) 1 0) key keys in
    let first : indicator (ltb key.bucket 0) ≡ 0 = ap indicator (le-ltb key.bucket 0 (omega arith)) in
    omega (arith, rest, a, first)

pub sum_below : (keys : List HashKey) (bucket : ℕ) → bucket ≤ 4096 → sum (take bucket (counts keys)) ≡ count_by (λ key. ltb key.bucket bucket) keys
sum_below keys zero le = sym (none_below keys)
sum_below keys (suc bucket) le =
    let all = length_counts keys in
    let rest = sum_below keys bucket (omega (arith, le)) in
    let more = sum_by_more (λ (x : ℕ). x) (counts keys) bucket 0 (omega (arith, all, le)) in
    let at = counts_at keys bucket (omega (arith, le)) in
    let whole = below_more keys bucket in
    let place : sum (take (suc bucket) (counts keys)) ≡ sum (take (bucket + 1) (counts keys)) = let e : suc bucket ≡ bucket + 1 = omega arith in ap (λ (n : ℕ). sum (take n (counts keys))) e in
    omega (arith, place, rest, more, at, whole)

pub sum_counts : (keys : List HashKey) → sum (counts keys) ≤ length keys
sum_counts keys =
    let all = length_counts keys in
    let whole : take 4096 (counts keys) ≡ counts keys = take_all 4096 (counts keys) (omega (arith, all)) in
    let below = sum_below keys 4096 (omega arith) in
    let most = count_by-le-length (λ (key : HashKey). ltb key.bucket 4096) keys in
    let same = ap sum whole in
    omega (arith, below, most, same)

-- ---- words and bits

pub length_word : (first count : ℕ) → length (word_of first count) ≤ 4
length_word first count = go (ltb 0 count)
  where
    go : (b : Bool) → length (cond b (number_bytes 4 (12 * first)) []) ≤ 4
    go true = let len = length-number_bytes 4 (12 * first) in omega (arith, len)
    go false = omega arith

pub no_words : (first : ℕ) → words first [] ≡ []
unfolding words
no_words first = refl

pub word_made : (first i count d : ℕ) (counts old new : List ℕ) → i < length counts → count ≡ get_or counts i d → old ++ words first (drop i counts) ≡ words 0 counts → new ≡ old ++ word_of first count → new ++ words (first + count) (drop (i + 1) counts) ≡ words 0 counts
unfolding words
word_made first i count d counts old new lt is so_far grown =
    ap (λ (xs : List ℕ). xs ++ words (first + count) (drop (i + 1) counts)) grown
    ∙ append_assoc old (word_of first count) (words (first + count) (drop (i + 1) counts))
    ∙ ap (λ (n : ℕ). old ++ (word_of first n ++ words (first + n) (drop (i + 1) counts))) is
    ∙ ap (λ (xs : List ℕ). old ++ words first xs) (sym (drop_more counts i d lt))
    ∙ so_far

pub bits_more : (n : ℕ) (test : ℕ → Bool) → bits (n + 1) test ≡ bits n test + bit_of n (test n)
unfolding bits
bits_more n test = ap (λ (k : ℕ). bits k test) (add-one n)

pub no_bits : (test : ℕ → Bool) → bits 0 test ≡ 0
unfolding bits
no_bits test = refl

-- a bit more
pub bit_made : (n byte one : ℕ) (test : ℕ → Bool) → byte ≡ bits n test → one ≡ bit_of n (test n) → byte + one ≡ bits (n + 1) test
bit_made n byte one test is made = let more = bits_more n test in omega (arith, is, made, more)

pub bit_small : (n byte one : ℕ) → byte < 2 ^ n → one ≤ 2 ^ n → byte + one < 2 ^ (n + 1)
bit_small n byte one lt le = let double : 2 ^ (n + 1) ≡ 2 ^ suc n = ap (λ (k : ℕ). 2 ^ k) (add-one n) in omega (arith, lt, le, double, pow-succ' 2 n)

-- a byte more
pub bitmap_made : (counts : List ℕ) (place byte : ℕ) (before old new : List ℕ) → old ≡ before ++ map (bitmap_byte counts) (range_with_len 0 place) → byte ≡ bitmap_byte counts place → new ≡ old ++ byte ∷ [] → new ≡ before ++ map (bitmap_byte counts) (range_with_len 0 (place + 1))
bitmap_made counts place byte before old new is made grown =
    grown
    ∙ ap (λ (xs : List ℕ). xs ++ byte ∷ []) is
    ∙ append_assoc before (map (bitmap_byte counts) (range_with_len 0 place)) (byte ∷ [])
    ∙ ap (λ (x : ℕ). before ++ (map (bitmap_byte counts) (range_with_len 0 place) ++ x ∷ [])) made
    ∙ ap (λ (xs : List ℕ). before ++ xs) (sym (map-range_with_len_more (bitmap_byte counts) 0 place place (omega arith)))

-- ---- a list that is written back

pub written_back : (items new : List ℕ) (len : ℕ) → length items ≡ len → length new ≡ length items → take len (new ++ drop (length new) items) ≡ new
written_back items new len is same =
    ap (λ (xs : List ℕ). take len (new ++ xs)) (drop_all (length new) items (omega (arith, same)))
    ∙ ap (take len) (append-nil new)
    ∙ take_all len new (omega (arith, is, same))

-- ---- names one behind the other

pub lowered_joined : (rows : List PublicRow) → lowered (flat_map (λ row. row.name) rows) ≡ flat_map (λ row. lowered row.name) rows
lowered_joined [] = refl
lowered_joined (row ∷ rows) =
    map-append to_ascii_lowercase row.name (flat_map (λ (r : PublicRow). r.name) rows) ∙ ap (λ (xs : List ℕ). lowered row.name ++ xs) (lowered_joined rows)
