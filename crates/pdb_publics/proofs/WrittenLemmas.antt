-- The stream of publics as it is read back.
use Rattle.std.proofs.Common.{◌≡◌, ℕ, ◌+◌, ◌*◌, ◌≤◌, true, le-leb, List, [], ◌∷◌, ◌++◌, length, map, replicate, refl, ap, ◌∙◌, append_assoc, arith, length-append}
use Rattle.std.specs.List.{All, range_with_len}
use Rattle.std.proofs.lemmas.List.{length-replicate}
use Rattle.std.proofs.lemmas.List.FromFn.{length-map-range_with_len}
use Rattle.link_base.specs.Bytes.{number_at}
use Rattle.link_base.specs.Fields.{fields}
use Rattle.link_base.specs.declared.numbers.LeNumber.{LeNumber}
use Rattle.link_base.specs.declared.numbers.LeNumber.TheVariants.{U16, U32}
use Rattle.pdb_publics.specs.declared.keys.HashKey.{HashKey}
use Rattle.pdb_publics.specs.declared.keys.PlaceKey.{PlaceKey}
use Rattle.pdb_publics.specs.PublicOrder.{IsKey}
use Rattle.pdb_publics.specs.PublicStreams.{counts, hash_record, hash_records, bitmap_byte, bitmap, words, hash_part, address_map, publics_of}
use Rattle.pdb_publics.specs.Lookup.{hash_len, map_len, records_len, tables_len, fills, has_parts}
use Rattle.pdb_publics.proofs.CountLemmas.{number_behind}
use Rattle.pdb_publics.proofs.StreamLemmas.{length_fields, length_map}
use Rattle.pdb_publics.proofs.RecordLemmas.{first_u32, later_field}

-- ---- lengths

pub length_hash_records : (keys : List HashKey) → length (hash_records keys) ≡ 8 * length keys
length_hash_records [] = refl
length_hash_records (key ∷ keys) =
    let both = length-append (hash_record key) (hash_records keys) in
    let first : length (hash_record key) ≡ 8 = length_fields (U32 (key.record_offset + 1) ∷ U32 1 ∷ []) in
    let rest = length_hash_records keys in
    omega (arith, both, first, rest)

pub length_bitmap : (counts : List ℕ) → length (bitmap counts) ≡ 516
unfolding bitmap
length_bitmap counts =
    let both = length-append (map (bitmap_byte counts) (range_with_len 0 512)) (replicate 4 0) in
    let first = length-map-range_with_len (bitmap_byte counts) 0 512 in
    let last = length-replicate {A = ℕ} 4 0 in
    omega (arith, both, first, last)

unfoldable pub words_of : List HashKey → List ℕ
words_of keys = words 0 (counts keys)

pub hash_head : List HashKey → List LeNumber
hash_head keys = U32 0xFFFFFFFF ∷ U32 0xF12F091A ∷ U32 (8 * length keys) ∷ U32 (516 + length (words_of keys)) ∷ []

pub publics_head : List HashKey → List PlaceKey → List LeNumber
publics_head keys placed = U32 (length (hash_part keys)) ∷ U32 (4 * length placed) ∷ U32 0 ∷ U32 0 ∷ U16 0 ∷ U16 0 ∷ U32 0 ∷ U32 0 ∷ []

pub length_hash_head : (keys : List HashKey) → length (fields (hash_head keys)) ≡ 16
unfolding hash_head
length_hash_head keys = length_fields (hash_head keys)

pub length_publics_head : (keys : List HashKey) (placed : List PlaceKey) → length (fields (publics_head keys placed)) ≡ 28
unfolding publics_head
length_publics_head keys placed = length_fields (publics_head keys placed)

pub length_hash_part : (keys : List HashKey) → length (hash_part keys) ≡ 16 + 8 * length keys + 516 + length (words_of keys)
unfolding hash_part hash_head words_of
length_hash_part keys =
    let a = length-append (fields (hash_head keys)) (hash_records keys ++ (bitmap (counts keys) ++ words_of keys)) in
    let b = length-append (hash_records keys) (bitmap (counts keys) ++ words_of keys) in
    let c = length-append (bitmap (counts keys)) (words_of keys) in
    let d = length_hash_head keys in
    let e = length_hash_records keys in
    let f = length_bitmap (counts keys) in
    omega (arith, a, b, c, d, e, f)

pub length_publics : (keys : List HashKey) (placed : List PlaceKey) → length (publics_of keys placed) ≡ 28 + length (hash_part keys) + 4 * length placed
unfolding publics_of publics_head
length_publics keys placed =
    let a = length-append (fields (publics_head keys placed)) (hash_part keys ++ address_map placed) in
    let b = length-append (hash_part keys) (address_map placed) in
    let c = length_publics_head keys placed in
    let d = length_map placed in
    omega (arith, a, b, c, d)

-- ---- the parts, one behind the other

unfoldable pub behind_head : List HashKey → List PlaceKey → List ℕ
behind_head keys placed = fields (hash_head keys) ++ (hash_records keys ++ (bitmap (counts keys) ++ (words_of keys ++ address_map placed)))

pub flat : (keys : List HashKey) (placed : List PlaceKey) → publics_of keys placed ≡ fields (publics_head keys placed) ++ behind_head keys placed
unfolding publics_of hash_part publics_head hash_head words_of behind_head
flat keys placed =
    ap (λ (xs : List ℕ). fields (publics_head keys placed) ++ xs)
    (append_assoc (fields (hash_head keys)) (hash_records keys ++ (bitmap (counts keys) ++ words_of keys)) (address_map placed)
    ∙ ap (λ (xs : List ℕ). fields (hash_head keys) ++ xs)
    (append_assoc (hash_records keys) (bitmap (counts keys) ++ words_of keys) (address_map placed)
    ∙ ap (λ (xs : List ℕ). hash_records keys ++ xs) (append_assoc (bitmap (counts keys)) (words_of keys) (address_map placed))))

-- keys whose stream is not too long
pub record Fits (keys : List HashKey) (placed : List PlaceKey) : Type 0 where
  pub each : All IsKey keys
  pub long : length (publics_of keys placed) ≤ 1073741824

module _ (keys : List HashKey) (placed : List PlaceKey) (fit : Fits keys placed) where
  pub small : length (hash_part keys) + 4 * length placed ≤ 1073741824
  small = let a = length_publics keys placed in let b = fit.long in omega (arith, a, b)

  pub hash_len_is : hash_len (publics_of keys placed) ≡ length (hash_part keys)
  unfolding hash_len publics_head
  hash_len_is =
      ap (λ (xs : List ℕ). number_at 4 xs 0) (flat keys placed)
      ∙ first_u32 (length (hash_part keys)) (U32 (4 * length placed) ∷ U32 0 ∷ U32 0 ∷ U16 0 ∷ U16 0 ∷ U32 0 ∷ U32 0 ∷ []) (behind_head keys placed) (omega (arith, small))

  pub map_len_is : map_len (publics_of keys placed) ≡ 4 * length placed
  unfolding map_len publics_head
  map_len_is =
      ap (λ (xs : List ℕ). number_at 4 xs 4) (flat keys placed)
      ∙ later_field 4 (U32 (length (hash_part keys))) (U32 (4 * length placed) ∷ U32 0 ∷ U32 0 ∷ U16 0 ∷ U16 0 ∷ U32 0 ∷ U32 0 ∷ []) (behind_head keys placed) 0 4 refl
      ∙ first_u32 (4 * length placed) (U32 0 ∷ U32 0 ∷ U16 0 ∷ U16 0 ∷ U32 0 ∷ U32 0 ∷ []) (behind_head keys placed) (omega (arith, small))

  pub behind : (n i at : ℕ) → at ≡ 28 + i → number_at n (publics_of keys placed) at ≡ number_at n (behind_head keys placed) i
  behind n i at is = ap (λ (xs : List ℕ). number_at n xs at) (flat keys placed) ∙ number_behind n (fields (publics_head keys placed)) (behind_head keys placed) 28 i at (length_publics_head keys placed) is

  tables : List ℕ
  tables = hash_records keys ++ (bitmap (counts keys) ++ (words_of keys ++ address_map placed))

  pub records_len_is : records_len (publics_of keys placed) ≡ 8 * length keys
  unfolding records_len behind_head hash_head tables
  records_len_is =
      let part = length_hash_part keys in
      behind 4 8 36 refl
      ∙ later_field 4 (U32 0xFFFFFFFF) (U32 0xF12F091A ∷ U32 (8 * length keys) ∷ U32 (516 + length (words_of keys)) ∷ []) tables 4 8 refl
      ∙ later_field 4 (U32 0xF12F091A) (U32 (8 * length keys) ∷ U32 (516 + length (words_of keys)) ∷ []) tables 0 4 refl
      ∙ first_u32 (8 * length keys) (U32 (516 + length (words_of keys)) ∷ []) tables (omega (arith, small, part))

  pub tables_len_is : tables_len (publics_of keys placed) ≡ 516 + length (words 0 (counts keys))
  unfolding tables_len behind_head hash_head tables words_of
  tables_len_is =
      let part = length_hash_part keys in
      behind 4 12 40 refl
      ∙ later_field 4 (U32 0xFFFFFFFF) (U32 0xF12F091A ∷ U32 (8 * length keys) ∷ U32 (516 + length (words_of keys)) ∷ []) tables 8 12 refl
      ∙ later_field 4 (U32 0xF12F091A) (U32 (8 * length keys) ∷ U32 (516 + length (words_of keys)) ∷ []) tables 4 8 refl
      ∙ later_field 4 (U32 (8 * length keys)) (U32 (516 + length (words_of keys)) ∷ []) tables 0 4 refl
      ∙ first_u32 (516 + length (words_of keys)) [] tables (omega (arith, small, part))

  pub parts_are_there : has_parts (publics_of keys placed) ≡ true
  unfolding has_parts fills words_of
  parts_are_there =
      let whole = length_publics keys placed in
      let part = length_hash_part keys in
      rw (
        hash_len_is,
        map_len_is,
        records_len_is,
        tables_len_is,
        le-leb (0 + 28) (length publics) (omega (arith, whole)),
        le-leb (28 + (length (hash_part keys) + 4 * length placed)) (length publics) (omega (arith, whole)),
        le-leb 16 (length (hash_part keys)) (omega (arith, part)),
        le-leb (16 + 8 * length keys + (516 + length (words 0 (counts keys)))) (length (hash_part keys)) (omega (arith, part)),
        le-leb 516 (516 + length (words 0 (counts keys))) (omega arith),
      ) refl
    where
      publics : List ℕ
      publics = publics_of keys placed
