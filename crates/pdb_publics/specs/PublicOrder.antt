-- The orders in which public symbols stand (own, after LLVM, "The PDB Public Symbol Stream").
use Rattle.std.specs.Prelude.{ℕ, ◌+◌, ◌*◌, ◌/◌, ◌<◌, ◌^◌, List, [], ◌∷◌, length, map, sum_by}
use Rattle.std.specs.Ordering.{nat_cmp, bool_cmp, then_cmp, on}
use Rattle.std.specs.declared.cmp.Ordering.{Ordering}
use Rattle.std.specs.Cmp.Lexicographic.{slice_cmp}
use Rattle.std.specs.Char.{to_ascii_lowercase}
use Rattle.sorted_lists.specs.Order.{in_order}
use Rattle.pdb_publics.specs.declared.rows.PublicRow.{PublicRow}
use Rattle.pdb_publics.specs.declared.keys.HashKey.{HashKey}
use Rattle.pdb_publics.specs.declared.keys.PlaceKey.{PlaceKey}
use Rattle.pdb_publics.specs.NameHash.{bucket}

-- ---- the order of the records: by the bytes of the names

abbrev pub row_cmp : PublicRow → PublicRow → Ordering
row_cmp =
    then_cmp (on (λ row. row.name) (slice_cmp nat_cmp))
    (then_cmp (on (λ row. row.section) nat_cmp)
    (then_cmp (on (λ row. row.offset) nat_cmp)
    (on (λ row. row.function) bool_cmp)))

abbrev pub by_name : List PublicRow → List PublicRow
by_name rows = in_order row_cmp rows

-- the size of the record of a name of so many bytes: 14 bytes of fields, the name and a NUL, filled to a multiple of four
abbrev pub record_size : ℕ → ℕ
record_size name_len = (name_len + 18) / 4 * 4

-- the size of the records of some rows
abbrev pub extent : List PublicRow → ℕ
extent rows = sum_by (λ row. record_size (length row.name)) rows

-- ---- the order of the hash part: by buckets, and in a bucket by the lengths of names, then by their bytes with small
-- letters for capitals, then by their bytes, which is the order of the records

abbrev pub hash_cmp : HashKey → HashKey → Ordering
hash_cmp =
    then_cmp (on (λ key. key.bucket) nat_cmp)
    (then_cmp (on (λ key. key.len) nat_cmp)
    (then_cmp (on (λ key. key.lowered) (slice_cmp nat_cmp))
    (on (λ key. key.record_offset) nat_cmp)))

abbrev pub lowered : List ℕ → List ℕ
lowered name = map to_ascii_lowercase name

abbrev pub hash_key : ℕ → PublicRow → HashKey
hash_key offset row = record {
  bucket = bucket row.name;
  len = length row.name;
  lowered = lowered row.name;
  record_offset = offset;
}

-- the keys of rows whose records stand one behind the other from an offset on
unfoldable pub hash_keys : ℕ → List PublicRow → List HashKey
hash_keys offset [] = []
hash_keys offset (row ∷ rows) = hash_key offset row ∷ hash_keys (offset + record_size (length row.name)) rows

-- there is such a bucket, and the offset lies in a stream
pub record IsKey (key : HashKey) : Type 0 where
  pub bucket : key.bucket < 4096
  pub record_offset : key.record_offset < 2 ^ 31

abbrev pub by_hash : List PublicRow → List HashKey
by_hash rows = in_order hash_cmp (hash_keys 0 rows)

-- ---- the order of the address map: by sections and offsets in them, then by names, which is the order of the records

abbrev pub place_cmp : PlaceKey → PlaceKey → Ordering
place_cmp =
    then_cmp (on (λ key. key.section) nat_cmp)
    (then_cmp (on (λ key. key.offset) nat_cmp)
    (on (λ key. key.record_offset) nat_cmp))

abbrev pub place_key : ℕ → PublicRow → PlaceKey
place_key offset row = record { section = row.section; offset = row.offset; record_offset = offset }

unfoldable pub place_keys : ℕ → List PublicRow → List PlaceKey
place_keys offset [] = []
place_keys offset (row ∷ rows) = place_key offset row ∷ place_keys (offset + record_size (length row.name)) rows

abbrev pub by_place : List PublicRow → List PlaceKey
by_place rows = in_order place_cmp (place_keys 0 rows)
