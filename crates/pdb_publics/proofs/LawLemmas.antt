-- What is found in streams that were written.
use Rattle.std.proofs.Common.{◌≡◌, ℕ, zero, suc, ◌+◌, ◌-◌, ◌<◌, ◌≤◌, Bool, true, false, cond, eqb, ltb, lt-ltb, le-ltb, List, [], ◌∷◌, length, get_or, take, drop, Option, Some, None, Ok, unwrap_or, refl, sym, ap, ◌∙◌, inl, inr, ◌⊎◌, arith, rules}
use Rattle.std.specs.List.{All, Contains, count_by}
use Rattle.std.specs.List.Sorted.{IsSorted}
use Rattle.std.specs.Ordering.{is_lt, nat_cmp, ordering_then}
use Rattle.std.specs.Cmp.Lexicographic.{bytes_decides}
use Rattle.std.specs.declared.cmp.Ordering.{Ordering}
use Rattle.std.specs.declared.cmp.Ordering.TheVariants.{Less, Equal, Greater}
use Rattle.std.proofs.lemmas.Bool.{false≢true, cases_lt}
use Rattle.std.proofs.lemmas.List.{get_or_default}
use Rattle.std.proofs.lemmas.List.Sums.{sum_by-cons, count_by-le-length}
use Rattle.std.proofs.lemmas.List.Sorted.{sorted_far, ranks_by, All-permutation, Contains-permutation}
use Rattle.link_base.specs.NameText.{same_name}
use Rattle.link_base.specs.Refusals.{first_refusal_below}
use Rattle.sorted_lists.proofs.CallerLemmas.{order_permutes, order_sorted}
use Rattle.pdb_publics.specs.declared.rows.PublicRow.{PublicRow}
use Rattle.pdb_publics.specs.declared.keys.HashKey.{HashKey}
use Rattle.pdb_publics.specs.NameHash.{bucket}
use Rattle.pdb_publics.specs.PublicOrder.{hash_cmp, by_hash, by_place, record_size, extent, hash_key, hash_keys}
use Rattle.pdb_publics.specs.PublicStreams.{counts, has_some, records_of, publics_of}
use Rattle.pdb_publics.specs.Lookup.{Answer, has_bucket, passing, first_record, end_record, verdict, hash_entry, first_named, found_in_bucket, found_in}
use Rattle.pdb_publics.specs.WrittenPublics.{IsRow, public_of}
use Rattle.pdb_publics.proofs.KeyLemmas.{hash_total, length_hash_keys}
use Rattle.pdb_publics.proofs.CountLemmas.{count_low, count_high}
use Rattle.pdb_publics.proofs.PartLemmas.{counts_at, below_more}
use Rattle.pdb_publics.proofs.RecordLemmas.{record_stands, public_read, name_read}
use Rattle.pdb_publics.proofs.WrittenLemmas.{Fits, parts_are_there}
use Rattle.pdb_publics.proofs.BucketLemmas.{entry_read, bucket_read, number_read, range_read}

-- ---- the first answer, where all that answer answer the same

module _ {A : Type 0} (f : ℕ → Option A) (x : A) where
  all_or_none : (n : ℕ) → ((k : ℕ) → k < n → (f k ≡ None) ⊎ (f k ≡ Some x)) → (first_refusal_below n f ≡ None) ⊎ (first_refusal_below n f ≡ Some x)
  unfolding first_refusal_below
  all_or_none zero each = inl refl
  all_or_none (suc n) each =
      elim (all_or_none n (λ k lt. each k (omega (arith, lt)))) [
        | inl none ↦ elim (each n (omega arith)) [
          | inl last ↦ inl (rw (none, last) refl)
          | inr last ↦ inr (rw (none, last) refl)
        ]
        | inr found ↦ inr (rw found refl)
      ]

  pub only_answer : (n k : ℕ) → ((i : ℕ) → i < n → (f i ≡ None) ⊎ (f i ≡ Some x)) → k < n → f k ≡ Some x → first_refusal_below n f ≡ Some x
  unfolding first_refusal_below
  only_answer zero k each lt here = absurd (omega (arith, lt))
  only_answer (suc n) k each lt here =
      elim (all_or_none n (λ i low. each i (omega (arith, low)))) [
        | inr found ↦ rw found refl
        | inl none ↦ elim (cases_lt k n) [
          | inl below ↦ rw (only_answer n k (λ i low. each i (omega (arith, low))) below here) refl
          | inr above ↦ let same : n ≡ k = omega (arith, above, lt) in rw none (ap f same ∙ here)
        ]
      ]

  pub no_answer : (n : ℕ) → ((i : ℕ) → i < n → f i ≡ None) → first_refusal_below n f ≡ None
  unfolding first_refusal_below
  no_answer zero each = refl
  no_answer (suc n) each = rw (no_answer n (λ i low. each i (omega (arith, low))), each n (omega arith)) refl

-- ---- the keys of rows

-- a key is that of the row of an index
pub record IsKeyOf (rows : List PublicRow) (key : HashKey) : Type 0 where
  pub index : ℕ
  pub inside : index < length rows
  pub is : (d : PublicRow) → key ≡ hash_key (extent (take index rows)) (get_or rows index d)

keys_from : (offset : ℕ) (rows : List PublicRow) → (i : ℕ) (d : PublicRow) (e : HashKey) → i < length rows → get_or (hash_keys offset rows) i e ≡ hash_key (offset + extent (take i rows)) (get_or rows i d)
unfolding hash_keys
keys_from offset [] i d e lt = absurd (omega (arith, lt))
keys_from offset (row ∷ rows) zero d e lt = let place : offset ≡ offset + 0 = omega arith in ap (λ (n : ℕ). hash_key n row) place
keys_from offset (row ∷ rows) (suc i) d e lt =
    let more = sum_by-cons (λ (r : PublicRow). record_size (length r.name)) row (take i rows) in
    let place : offset + record_size (length row.name) + extent (take i rows) ≡ offset + extent (take (suc i) (row ∷ rows)) = omega (arith, more) in
    keys_from (offset + record_size (length row.name)) rows i d e (omega (arith, lt)) ∙ ap (λ (n : ℕ). hash_key n (get_or rows i d)) place

key_of_row : (rows : List PublicRow) (i : ℕ) (d : PublicRow) (e : HashKey) → i < length rows → get_or (hash_keys 0 rows) i e ≡ hash_key (extent (take i rows)) (get_or rows i d)
key_of_row rows i d e lt = let place : 0 + extent (take i rows) ≡ extent (take i rows) = omega arith in keys_from 0 rows i d e lt ∙ ap (λ (n : ℕ). hash_key n (get_or rows i d)) place

hashed_of_rows : (rows : List PublicRow) → All (IsKeyOf rows) (by_hash rows)
hashed_of_rows rows =
    All-permutation (IsKeyOf rows) (hash_keys 0 rows) (by_hash rows) (order_permutes hash_cmp (hash_keys 0 rows))
    (λ i e lt. let long = length_hash_keys 0 rows in record { index = i; inside = omega (arith, lt, long); is = λ d. key_of_row rows i d e (omega (arith, lt, long)) })

-- ---- keys that stand by their buckets

then_less : (r s : Ordering) → r ≡ Less → is_lt (ordering_then r s) ≡ true
then_less Less s e = refl
then_less Equal s e = absurd (false≢true (ap is_lt e))
then_less Greater s e = absurd (false≢true (ap is_lt e))

lesser_bucket : (a b : HashKey) → a.bucket < b.bucket → is_lt (hash_cmp a b) ≡ true
lesser_bucket a b lt = then_less (nat_cmp a.bucket b.bucket) _ (less a.bucket b.bucket lt)
  where
    less : (m n : ℕ) → m < n → nat_cmp m n ≡ Less
    less m n lt = rw (lt-ltb m n lt) refl

buckets_ascend : (keys : List HashKey) (i j : ℕ) (d : HashKey) → IsSorted hash_cmp keys → i ≤ j → j < length keys → (get_or keys i d).bucket ≤ (get_or keys j d).bucket
buckets_ascend keys i j d sorted le lt =
    elim (cases_lt (get_or keys j d).bucket (get_or keys i d).bucket) [
      | inr ascend ↦ ascend
      | inl descend ↦ absurd (false≢true (sym (sorted_far (λ a b. is_lt (hash_cmp a b)) (ranks_by hash_total (λ (key : HashKey). key)) keys sorted i j d le lt) ∙ lesser_bucket (get_or keys j d) (get_or keys i d) descend))
    ]

-- a key stands in the range of its bucket
pub in_range : (keys : List HashKey) (k number : ℕ) (d : HashKey) → IsSorted hash_cmp keys → k < length keys → (get_or keys k d).bucket ≡ number → (count_by (λ key. ltb key.bucket number) keys ≤ k) × (k < count_by (λ key. ltb key.bucket (number + 1)) keys)
in_range keys k number d sorted lt is = (
  count_low (λ key. ltb key.bucket number) keys k
      (λ i e low inside. le-ltb (get_or keys i e).bucket number (omega (arith, buckets_ascend keys k i e sorted low inside, at e, is))),
  count_high (λ key. ltb key.bucket (number + 1)) keys k lt
      (λ i e low. lt-ltb (get_or keys i e).bucket (number + 1) (omega (arith, buckets_ascend keys i k e sorted low lt, at e, is))),
)
  where
    at : (e : HashKey) → (get_or keys k e).bucket ≡ (get_or keys k d).bucket
    at e = ap (λ (key : HashKey). key.bucket) (get_or_default keys k e d lt)

-- ---- what the streams of rows answer

above_zero : (n : ℕ) → eqb (n + 1) 0 ≡ false
above_zero n = search rules

-- what the record of a row says of a name
said : PublicRow → List ℕ → Option Answer
said row name = cond (same_name row.name name) (Some (Ok (Some (public_of row)))) None

pub record Written (rows : List PublicRow) : Type 0 where
  pub each : All IsRow rows
  pub one_name : (a b : PublicRow) → Contains rows a → Contains rows b → a.name ≡ b.name → a ≡ b
  pub fit : Fits (by_hash rows) (by_place rows)

module _ (rows : List PublicRow) (written : Written rows) (name : List ℕ) where
  keys : List HashKey
  keys = by_hash rows

  publics : List ℕ
  publics = publics_of (by_hash rows) (by_place rows)

  says : (i : ℕ) (d : PublicRow) → i < length rows → verdict (records_of rows) name (extent (take i rows) + 1) ≡ said (get_or rows i d) name
  unfolding verdict said
  says i d lt =
      let row = get_or rows i d in
      let stands = record_stands rows i d lt in
      let text = name_read (extent (take i rows)) (records_of rows) (records_of (drop (i + 1) rows)) row (written.each i d lt) stands in
      let found = public_read (extent (take i rows)) (records_of rows) (records_of (drop (i + 1) rows)) row (written.each i d lt) stands in
      let offset : extent (take i rows) + 1 - 1 ≡ extent (take i rows) = omega arith in
      rw (above_zero (extent (take i rows)), offset, text, found) refl

  -- what a record of the hash part says: what the record of some row does
  record Says (k : ℕ) : Type 0 where
    row : PublicRow
    there : Contains rows row
    is : verdict (records_of rows) name (hash_entry (publics_of (by_hash rows) (by_place rows)) k) ≡ said row name

  key_says : (k : ℕ) → k < length (by_hash rows) → Says k
  key_says k lt =
      let e : HashKey = record { bucket = 0; len = 0; lowered = []; record_offset = 0 } in
      let d : PublicRow = record { name = []; section = 0; offset = 0; function = false } in
      let of_row = hashed_of_rows rows k e lt in
      let entry = entry_read (by_hash rows) (by_place rows) written.fit k e lt in
      let offset = ap (λ (key : HashKey). key.record_offset + 1) (of_row.is d) in
      record {
        row = get_or rows of_row.index d;
        there = (of_row.index, of_row.inside, get_or_default rows of_row.index (get_or rows of_row.index d) d of_row.inside);
        is = ap (verdict (records_of rows) name) (entry ∙ offset) ∙ says of_row.index d of_row.inside;
      }

  abbrev answers : ℕ → ℕ → Option Answer
  answers first index = verdict (records_of rows) name (hash_entry (publics_of (by_hash rows) (by_place rows)) (first + index))

  few : (number : ℕ) → count_by (λ key. ltb key.bucket number) (by_hash rows) ≤ length (by_hash rows)
  few number = count_by-le-length (λ (key : HashKey). ltb key.bucket number) (by_hash rows)

  bucket_small : (text : List ℕ) → bucket text < 4096
  bucket_small text = omega arith

  -- through the table to the records of the bucket
  through : (answer : Answer) → has_some (counts (by_hash rows)) (bucket name) ≡ true
      → ((first end : ℕ) → first ≡ count_by (λ key. ltb key.bucket (bucket name)) (by_hash rows) → end ≡ count_by (λ key. ltb key.bucket (bucket name + 1)) (by_hash rows) → unwrap_or (first_refusal_below (end - first) (answers first)) (Ok None) ≡ answer)
      → found_in (publics_of (by_hash rows) (by_place rows)) (records_of rows) name ≡ answer
  unfolding found_in found_in_bucket first_named
  through answer some search_answers =
      let b = bucket name in
      let below = bucket_small name in
      let bit = bucket_read (by_hash rows) (by_place rows) written.fit b below in
      let number = passing b (has_bucket (publics_of (by_hash rows) (by_place rows))) in
      let range = range_read (by_hash rows) (by_place rows) written.fit b number below some (number_read (by_hash rows) (by_place rows) written.fit b (omega (arith, below))) in
      rw (parts_are_there (by_hash rows) (by_place rows) written.fit, bit, some, range.there)
      (search_answers (first_record (publics_of (by_hash rows) (by_place rows)) number) (end_record (publics_of (by_hash rows) (by_place rows)) number) range.first range.end)

  no_bucket : has_some (counts (by_hash rows)) (bucket name) ≡ false → found_in (publics_of (by_hash rows) (by_place rows)) (records_of rows) name ≡ Ok None
  unfolding found_in
  no_bucket none =
      let bit = bucket_read (by_hash rows) (by_place rows) written.fit (bucket name) (bucket_small name) in
      rw (parts_are_there (by_hash rows) (by_place rows) written.fit, bit, none) refl

  pub none_found : ((row : PublicRow) → Contains rows row → same_name row.name name ≡ false) → found_in (publics_of (by_hash rows) (by_place rows)) (records_of rows) name ≡ Ok None
  unfolding said
  none_found other = go (has_some (counts (by_hash rows)) (bucket name)) refl
    where
      silent : (first end : ℕ) → end ≡ count_by (λ key. ltb key.bucket (bucket name + 1)) (by_hash rows) → (i : ℕ) → i < end - first → answers first i ≡ None
      silent first end is i lt =
          let most = few (bucket name + 1) in
          let here = key_says (first + i) (omega (arith, most, is, lt)) in
          here.is ∙ ap (λ (b : Bool). cond b (Some (Ok (Some (public_of here.row)))) None) (other here.row here.there)

      go : (b : Bool) → has_some (counts (by_hash rows)) (bucket name) ≡ b → found_in (publics_of (by_hash rows) (by_place rows)) (records_of rows) name ≡ Ok None
      go false none = no_bucket none
      go true some = through (Ok None) some (λ first end is_first is_end. ap (λ (o : Option Answer). unwrap_or o (Ok None)) (no_answer (answers first) (Ok None) (end - first) (silent first end is_end)))

  pub row_found : (row : PublicRow) → Contains rows row → same_name row.name name ≡ true → found_in (publics_of (by_hash rows) (by_place rows)) (records_of rows) name ≡ Ok (Some (public_of row))
  unfolding said
  row_found row there named = through answer some (λ first end is_first is_end.
      ap (λ (o : Option Answer). unwrap_or o (Ok None))
      (only_answer (answers first) answer (end - first) (k - first) (each first end is_end) (omega (arith, is_first, is_end, low, high)) (here first is_first)))
    where
      answer : Answer
      answer = Ok (Some (public_of row))

      same : row.name ≡ name
      same = (bytes_decides row.name name).0 named

      i : ℕ
      i = there.0

      key : HashKey
      key = hash_key (extent (take there.0 rows)) row

      listed : Contains (hash_keys 0 rows) key
      listed = let long = length_hash_keys 0 rows in (there.0, omega (arith, long, there.1), key_of_row rows there.0 row key there.1 ∙ ap (hash_key (extent (take there.0 rows))) there.2)

      stands : Contains (by_hash rows) key
      stands = Contains-permutation (hash_keys 0 rows) (by_hash rows) key (order_permutes hash_cmp (hash_keys 0 rows)) listed

      k : ℕ
      k = stands.0

      range : (count_by (λ key'. ltb key'.bucket (bucket name)) (by_hash rows) ≤ stands.0) × (stands.0 < count_by (λ key'. ltb key'.bucket (bucket name + 1)) (by_hash rows))
      range = in_range (by_hash rows) stands.0 (bucket name) key (order_sorted hash_cmp hash_total (hash_keys 0 rows)) stands.1 (ap (λ (key' : HashKey). key'.bucket) stands.2 ∙ ap bucket same)

      low : count_by (λ key'. ltb key'.bucket (bucket name)) (by_hash rows) ≤ stands.0
      low = range.0

      high : stands.0 < count_by (λ key'. ltb key'.bucket (bucket name + 1)) (by_hash rows)
      high = range.1

      some : has_some (counts (by_hash rows)) (bucket name) ≡ true
      some =
          let at = counts_at (by_hash rows) (bucket name) (bucket_small name) in
          let more = below_more (by_hash rows) (bucket name) in
          let next : bucket name + 1 ≡ suc (bucket name) = omega arith in
          let whole = ap (λ (n : ℕ). count_by (λ (key' : HashKey). ltb key'.bucket n) (by_hash rows)) next in
          lt-ltb 0 (get_or (counts (by_hash rows)) (bucket name) 0) (omega (arith, at, more, whole, low, high))

      each : (first end : ℕ) → end ≡ count_by (λ key'. ltb key'.bucket (bucket name + 1)) (by_hash rows) → (j : ℕ) → j < end - first → (answers first j ≡ None) ⊎ (answers first j ≡ Some answer)
      each first end is j lt = pick (key_says (first + j) (omega (arith, few (bucket name + 1), is, lt)))
        where
          pick : Says (first + j) → (answers first j ≡ None) ⊎ (answers first j ≡ Some answer)
          pick says' = tell (same_name says'.row.name name) refl
            where
              tell : (b : Bool) → same_name says'.row.name name ≡ b → (answers first j ≡ None) ⊎ (answers first j ≡ Some answer)
              tell false other = inl (says'.is ∙ ap (λ (b : Bool). cond b (Some (Ok (Some (public_of says'.row)))) None) other)
              tell true one =
                  let equal = written.one_name says'.row row says'.there there ((bytes_decides says'.row.name name).0 one ∙ sym same) in
                  inr (says'.is ∙ ap (λ (b : Bool). cond b (Some (Ok (Some (public_of says'.row)))) None) one ∙ ap (λ (r : PublicRow). Some (Ok (Some (public_of r)))) equal)

      here : (first : ℕ) → first ≡ count_by (λ key'. ltb key'.bucket (bucket name)) (by_hash rows) → answers first (stands.0 - first) ≡ Some answer
      here first is =
          let place : first + (stands.0 - first) ≡ stands.0 = omega (arith, is, low) in
          let entry = entry_read (by_hash rows) (by_place rows) written.fit stands.0 key stands.1 in
          let offset = ap (λ (key' : HashKey). key'.record_offset + 1) stands.2 in
          ap (λ (n : ℕ). verdict (records_of rows) name (hash_entry (publics_of (by_hash rows) (by_place rows)) n)) place
          ∙ ap (verdict (records_of rows) name) (entry ∙ offset)
          ∙ says there.0 row there.1
          ∙ ap (λ (r : PublicRow). said r name) there.2
          ∙ ap (λ (b : Bool). cond b (Some answer) None) named
