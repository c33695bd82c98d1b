-- The bits, the words and the range of a bucket in a stream of publics that was written.
use Rattle.std.proofs.Common.{◌≡◌, ℕ, zero, suc, ◌+◌, ◌-◌, ◌*◌, ◌/◌, ◌%◌, ◌<◌, ◌≤◌, true, false, ltb, le-leb, lt-ltb, le-ltb, eq-eqb, List, [], ◌∷◌, ◌++◌, length, get_or, take, map, replicate, sum, refl, sym, ap, ◌∙◌, inl, inr, append_assoc, arith}
use Rattle.std.specs.List.{All, range_with_len, count_by}
use Rattle.std.proofs.lemmas.Bool.{cases_lt}
use Rattle.std.proofs.lemmas.List.{get_or-replicate, get_or_append_left, get_or-append_right}
use Rattle.std.proofs.lemmas.List.Sums.{sum_by-cons, sum_by-take-le, sum_by_more}
use Rattle.std.proofs.lemmas.List.FromFn.{length-map-range_with_len, get_or-map-range_with_len}
use Rattle.link_base.specs.Bytes.{number_at}
use Rattle.link_base.specs.Fields.{fields}
use Rattle.link_base.specs.declared.numbers.LeNumber.TheVariants.{U32}
use Rattle.pdb_publics.specs.declared.keys.HashKey.{HashKey}
use Rattle.pdb_publics.specs.declared.keys.PlaceKey.{PlaceKey}
use Rattle.pdb_publics.specs.PublicOrder.{IsKey}
use Rattle.pdb_publics.specs.PublicStreams.{counts, hash_record, hash_records, has_some, bitmap_byte, bitmap, words, address_map, publics_of}
use Rattle.pdb_publics.specs.Lookup.{records_len, tables_len, bitmap_at, has_bucket, is_set, passing, word, is_word, first_record, has_next, end_record, has_end, has_range, hash_entry}
use Rattle.pdb_publics.proofs.CountLemmas.{number_behind, passing_same, passing_stays, passing_grows, passing_next, passing_below, next_passing, sum_stays, length_words, word_there, bit_read, no_bit, indicator}
use Rattle.pdb_publics.proofs.PartLemmas.{length_counts, sum_below, sum_counts}
use Rattle.pdb_publics.proofs.RecordLemmas.{first_u32}
use Rattle.pdb_publics.proofs.StreamLemmas.{length_fields}
use Rattle.pdb_publics.proofs.WrittenLemmas.{words_of, hash_head, publics_head, length_hash_head, length_publics_head, length_hash_records, length_bitmap, length_hash_part, behind_head, flat, Fits, small, behind, records_len_is, tables_len_is}

length_one : (key : HashKey) → length (hash_record key) ≡ 8
length_one key = length_fields (U32 (key.record_offset + 1) ∷ U32 1 ∷ [])

entry_in : (keys : List HashKey) (k : ℕ) (d : HashKey) (rest : List ℕ) → All IsKey keys → k < length keys → number_at 4 (hash_records keys ++ rest) (8 * k) ≡ (get_or keys k d).record_offset + 1
entry_in [] k d rest each lt = absurd (omega (arith, lt))
entry_in (key ∷ keys) zero d rest each lt =
    let is = (each 0 d (omega arith)).record_offset in
    ap (λ (xs : List ℕ). number_at 4 xs 0) (append_assoc (hash_record key) (hash_records keys) rest)
    ∙ first_u32 (key.record_offset + 1) (U32 1 ∷ []) (hash_records keys ++ rest) (omega (arith, is))
entry_in (key ∷ keys) (suc k) d rest each lt =
    let place : 8 * suc k ≡ 8 + 8 * k = omega arith in
    ap (λ (xs : List ℕ). number_at 4 xs (8 * suc k)) (append_assoc (hash_record key) (hash_records keys) rest)
    ∙ number_behind 4 (hash_record key) (hash_records keys ++ rest) 8 (8 * k) (8 * suc k) (length_one key) place
    ∙ entry_in keys k d rest (λ i e low. each (suc i) e (omega (arith, low))) (omega (arith, lt))

byte_behind : (xs ys : List ℕ) (n i at : ℕ) → length xs ≡ n → at ≡ n + i → get_or (xs ++ ys) at 0 ≡ get_or ys i 0
byte_behind xs ys n i at long is =
    let rest : at - n ≡ i = omega (arith, is) in
    get_or-append_right xs ys n at 0 long (omega (arith, is)) ∙ ap (λ (k : ℕ). get_or ys k 0) rest

-- each key has a bucket
each_counted : (keys : List HashKey) → All IsKey keys → count_by (λ key. ltb key.bucket 4096) keys ≡ length keys
each_counted [] each = refl
each_counted (key ∷ keys) each =
    let all = sum_by-cons (λ (k : HashKey). indicator (ltb k.bucket 4096)) key keys in
    let is = (each 0 key (omega arith)).bucket in
    let one = ap indicator (lt-ltb key.bucket 4096 is) in
    let rest = each_counted keys (λ i e low. each (suc i) e (omega (arith, low))) in
    omega (arith, all, one, rest)

module _ (keys : List HashKey) (placed : List PlaceKey) (fit : Fits keys placed) where
  pub entry_read : (k : ℕ) (d : HashKey) → k < length keys → hash_entry (publics_of keys placed) k ≡ (get_or keys k d).record_offset + 1
  unfolding hash_entry behind_head
  entry_read k d lt =
      let tail = bitmap (counts keys) ++ (words_of keys ++ address_map placed) in
      let place : 44 + 8 * k ≡ 28 + (16 + 8 * k) = omega arith in
      behind keys placed fit 4 (16 + 8 * k) (44 + 8 * k) place
      ∙ number_behind 4 (fields (hash_head keys)) (hash_records keys ++ tail) 16 (8 * k) (16 + 8 * k) (length_hash_head keys) refl
      ∙ entry_in keys k d tail fit.each lt

  byte_of_bitmap : (j : ℕ) → j < 516 → get_or (publics_of keys placed) (bitmap_at (publics_of keys placed) + j) 0 ≡ get_or (bitmap (counts keys)) j 0
  unfolding behind_head
  byte_of_bitmap j lt =
      let tail = words_of keys ++ address_map placed in
      let len = records_len_is keys placed fit in
      let place : bitmap_at (publics_of keys placed) + j ≡ 28 + (16 + (8 * length keys + j)) = omega (arith, len) in
      let long = length_bitmap (counts keys) in
      ap (λ (xs : List ℕ). get_or xs (bitmap_at (publics_of keys placed) + j) 0) (flat keys placed)
      ∙ byte_behind (fields (publics_head keys placed)) (behind_head keys placed) 28 (16 + (8 * length keys + j)) (bitmap_at (publics_of keys placed) + j) (length_publics_head keys placed) place
      ∙ byte_behind (fields (hash_head keys)) (hash_records keys ++ (bitmap (counts keys) ++ tail)) 16 (8 * length keys + j) (16 + (8 * length keys + j)) (length_hash_head keys) refl
      ∙ byte_behind (hash_records keys) (bitmap (counts keys) ++ tail) (8 * length keys) j (8 * length keys + j) (length_hash_records keys) refl
      ∙ get_or_append_left (bitmap (counts keys)) tail 0 j (omega (arith, lt, long))

  -- the bit of a bucket is set where it has keys
  pub bucket_read : (bucket : ℕ) → bucket < 4096 → has_bucket (publics_of keys placed) bucket ≡ has_some (counts keys) bucket
  unfolding has_bucket bitmap
  bucket_read bucket lt =
      let some = has_some (counts keys) in
      let all = length-map-range_with_len (bitmap_byte (counts keys)) 0 512 in
      let byte =
      byte_of_bitmap (bucket / 8) (omega (arith, lt))
      ∙ get_or_append_left (map (bitmap_byte (counts keys)) (range_with_len 0 512)) (replicate 4 0) 0 (bucket / 8) (omega (arith, lt, all))
      ∙ get_or-map-range_with_len (bitmap_byte (counts keys)) 0 512 (bucket / 8) (bucket / 8) 0 (omega (arith, lt)) (omega arith) in
      let whole : 8 * (bucket / 8) + bucket % 8 ≡ bucket = omega arith in
      ap (λ (n : ℕ). is_set n (bucket % 8)) byte
      ∙ bit_read (λ (bit : ℕ). some (8 * (bucket / 8) + bit)) (bucket % 8) (omega arith)
      ∙ ap some whole

  -- no bit behind the buckets is set
  beyond_read : (bucket : ℕ) → 4096 ≤ bucket → bucket < 4096 + 32 → has_bucket (publics_of keys placed) bucket ≡ false
  unfolding has_bucket bitmap
  beyond_read bucket low high =
      let all = length-map-range_with_len (bitmap_byte (counts keys)) 0 512 in
      let byte =
      byte_of_bitmap (bucket / 8) (omega (arith, high))
      ∙ get_or-append_right (map (bitmap_byte (counts keys)) (range_with_len 0 512)) (replicate 4 0) 512 (bucket / 8) 0 all (omega (arith, low))
      ∙ get_or-replicate 4 (bucket / 8 - 512) 0 0 (omega (arith, high)) in
      ap (λ (n : ℕ). is_set n (bucket % 8)) byte ∙ no_bit (bucket % 8)

  pub number_read : (bucket : ℕ) → bucket ≤ 4096 → passing bucket (has_bucket (publics_of keys placed)) ≡ passing bucket (has_some (counts keys))
  number_read bucket le = passing_same bucket (has_bucket (publics_of keys placed)) (has_some (counts keys)) (λ k lt. bucket_read k (omega (arith, lt, le)))

  total_read : passing 4128 (has_bucket (publics_of keys placed)) ≡ passing 4096 (has_some (counts keys))
  total_read = passing_stays 4096 32 (has_bucket (publics_of keys placed)) (λ k low high. beyond_read k low high) ∙ number_read 4096 (omega arith)

  keys_are_few : 8 * length keys + 516 ≤ 1073741824
  keys_are_few = let part = length_hash_part keys in let s = small keys placed fit in omega (arith, part, s)

  -- the word of a bucket that has keys
  word_read : (c number : ℕ) → c < 4096 → has_some (counts keys) c ≡ true → number ≡ passing c (has_some (counts keys)) → word (publics_of keys placed) number ≡ 12 * sum (take c (counts keys))
  unfolding word behind_head words_of
  word_read c number lt some is =
      let len = records_len_is keys placed fit in
      let place : bitmap_at (publics_of keys placed) + 516 + 4 * number ≡ 28 + (16 + (8 * length keys + (516 + 4 * number))) = omega (arith, len) in
      let all = length_counts keys in
      let most = sum_counts keys in
      let few = keys_are_few in
      let value : 12 * (0 + sum (take c (counts keys))) ≡ 12 * sum (take c (counts keys)) = omega arith in
      behind keys placed fit 4 (16 + (8 * length keys + (516 + 4 * number))) (bitmap_at (publics_of keys placed) + 516 + 4 * number) place
      ∙ number_behind 4 (fields (hash_head keys)) (hash_records keys ++ (bitmap (counts keys) ++ (words 0 (counts keys) ++ address_map placed))) 16 (8 * length keys + (516 + 4 * number)) (16 + (8 * length keys + (516 + 4 * number))) (length_hash_head keys) refl
      ∙ number_behind 4 (hash_records keys) (bitmap (counts keys) ++ (words 0 (counts keys) ++ address_map placed)) (8 * length keys) (516 + 4 * number) (8 * length keys + (516 + 4 * number)) (length_hash_records keys) refl
      ∙ number_behind 4 (bitmap (counts keys)) (words 0 (counts keys) ++ address_map placed) 516 (4 * number) (516 + 4 * number) (length_bitmap (counts keys)) refl
      ∙ ap (λ (n : ℕ). number_at 4 (words 0 (counts keys) ++ address_map placed) (4 * n)) is
      ∙ word_there 0 c (counts keys) (address_map placed) (omega (arith, lt, all)) some (omega (arith, most, few))
      ∙ value

  word_is_there : (c number : ℕ) → c < 4096 → has_some (counts keys) c ≡ true → number ≡ passing c (has_some (counts keys)) → is_word (publics_of keys placed) number ≡ true
  unfolding is_word
  word_is_there c number lt some is =
      let tables = tables_len_is keys placed fit in
      let long = length_words 0 (counts keys) in
      let all = length_counts keys in
      let same = ap (λ (n : ℕ). passing n (has_some (counts keys))) all in
      let below = passing_below c 4096 (has_some (counts keys)) lt some in
      let value = word_read c number lt some is in
      rw (le-leb (516 + 4 * number + 4) (tables_len (publics_of keys placed)) (omega (arith, tables, long, same, below, is)), eq-eqb (word (publics_of keys placed) number % 12) 0 (omega (arith, value))) refl

  first_read : (c number : ℕ) → c < 4096 → has_some (counts keys) c ≡ true → number ≡ passing c (has_some (counts keys)) → first_record (publics_of keys placed) number ≡ sum (take c (counts keys))
  first_read c number lt some is = let value = word_read c number lt some is in omega (arith, value)

  -- a bucket that has keys ends where the next begins, or with the records
  record Ends (c number : ℕ) : Type 0 where
    there : has_end (publics_of keys placed) number ≡ true
    is : end_record (publics_of keys placed) number ≡ sum (take (c + 1) (counts keys))

  end_read : (c number : ℕ) → c < 4096 → has_some (counts keys) c ≡ true → number ≡ passing c (has_some (counts keys)) → Ends c number
  unfolding has_next has_end end_record
  end_read c number lt some is =
      elim (cases_lt (number + 1) (passing 4128 (has_bucket (publics_of keys placed)))) [
        | inl more ↦
            let found = next_passing (suc c) (4096 - suc c) (has_some (counts keys)) (omega (arith, more, after, total_read, rest)) in
            let low = found.low in
            let high = found.high in
            let before = found.before in
            let here : number + 1 ≡ passing found.number (has_some (counts keys)) = omega (arith, after, before) in
            let below : found.number < 4096 = omega (arith, high, lt) in
            let between : suc c + (found.number - suc c) ≡ found.number = omega (arith, low) in
            let same = ap (λ (n : ℕ). passing n (has_some (counts keys))) between in
            let stays = sum_stays (counts keys) (suc c) (found.number - suc c) (omega (arith, between, below, all)) (omega (arith, same, before)) in
            let whole = ap (λ (n : ℕ). sum (take n (counts keys))) between in
            let first = first_read found.number (number + 1) below found.passes here in
            let next = lt-ltb (number + 1) (passing 4128 (has_bucket (publics_of keys placed))) more in
            record { there = rw next (word_is_there found.number (number + 1) below found.passes here); is = rw next (first ∙ sym whole ∙ stays ∙ place) }
        | inr last ↦
            let next = le-ltb (number + 1) (passing 4128 (has_bucket (publics_of keys placed))) last in
            let to_end : suc c + (4096 - suc c) ≡ 4096 = omega (arith, lt) in
            let same = ap (λ (n : ℕ). passing n (has_some (counts keys))) to_end in
            let grows = passing_grows (suc c) (4096 - suc c) (has_some (counts keys)) in
            let stays = sum_stays (counts keys) (suc c) (4096 - suc c) (omega (arith, to_end, all)) (omega (arith, same, grows, last, after, total_read)) in
            let whole = ap (λ (n : ℕ). sum (take n (counts keys))) to_end in
            let len = records_len_is keys placed fit in
            let count : records_len (publics_of keys placed) / 8 ≡ length keys = omega (arith, len) in
            record { there = rw next refl; is = rw next (count ∙ sym (all_counted) ∙ sym whole ∙ stays ∙ place) }
      ]
    where
      all : length (counts keys) ≡ 4096
      all = length_counts keys

      after : number + 1 ≡ passing (suc c) (has_some (counts keys))
      after = let n = passing_next c (has_some (counts keys)) in let one = ap indicator some in omega (arith, n, one, is)

      rest : passing 4096 (has_some (counts keys)) ≡ passing (suc c + (4096 - suc c)) (has_some (counts keys))
      rest = let e : 4096 ≡ suc c + (4096 - suc c) = omega (arith, lt) in ap (λ (n : ℕ). passing n (has_some (counts keys))) e

      place : sum (take (suc c) (counts keys)) ≡ sum (take (c + 1) (counts keys))
      place = let e : suc c ≡ c + 1 = omega arith in ap (λ (n : ℕ). sum (take n (counts keys))) e

      all_counted : sum (take 4096 (counts keys)) ≡ length keys
      all_counted = sum_below keys 4096 (omega arith) ∙ each_counted keys fit.each

  -- the range of a bucket that has keys: those of its bucket, behind those of the buckets before it
  pub record Ranges (bucket number : ℕ) : Type 0 where
    pub there : has_range (publics_of keys placed) number ≡ true
    pub first : first_record (publics_of keys placed) number ≡ count_by (λ key. ltb key.bucket bucket) keys
    pub end : end_record (publics_of keys placed) number ≡ count_by (λ key. ltb key.bucket (bucket + 1)) keys

  pub range_read : (bucket number : ℕ) → bucket < 4096 → has_some (counts keys) bucket ≡ true → number ≡ passing bucket (has_some (counts keys)) → Ranges bucket number
  unfolding has_range
  range_read bucket number lt some is =
      let ends = end_read bucket number lt some is in
      let first = first_read bucket number lt some is in
      let low = sum_below keys bucket (omega (arith, lt)) in
      let high = sum_below keys (bucket + 1) (omega (arith, lt)) in
      let end = ends.is in
      let all = length_counts keys in
      let more = sum_by_more (λ (n : ℕ). n) (counts keys) bucket 0 (omega (arith, lt, all)) in
      let most = sum_by-take-le (λ (n : ℕ). n) (counts keys) (bucket + 1) in
      let total = sum_counts keys in
      let len = records_len_is keys placed fit in
      record {
        there = rw (word_is_there bucket number lt some is, ends.there, le-leb (first_record (publics_of keys placed) number) (end_record (publics_of keys placed) number) (omega (arith, first, end, more)), le-leb (8 * end_record (publics_of keys placed) number) (records_len (publics_of keys placed)) (omega (arith, end, most, total, len))) refl;
        first = first ∙ low;
        end = end ∙ high;
      }
