-- The streams that list public symbols (LLVM, "The PDB Public Symbol Stream", "The PDB Global Symbol Stream" and "CodeView
-- Symbol Records"; the values of fields that LLVM leaves open are own).
use Rattle.std.specs.Prelude.{ℕ, zero, suc, ◌+◌, ◌-◌, ◌*◌, ◌^◌, Bool, ◌==◌, nat_lt, if◌then◌else◌, List, [], ◌∷◌, ◌++◌, length, map, replicate, count_by, slice_index}
use Rattle.std.specs.List.{flat_map, range_with_len}
use Rattle.link_base.specs.Bytes.{number_bytes}
use Rattle.link_base.specs.Fields.{fields}
use Rattle.link_base.specs.declared.numbers.LeNumber.TheVariants.{U16, U32}
use Rattle.pdb_publics.specs.declared.rows.PublicRow.{PublicRow}
use Rattle.pdb_publics.specs.declared.keys.HashKey.{HashKey}
use Rattle.pdb_publics.specs.declared.keys.PlaceKey.{PlaceKey}
use Rattle.pdb_publics.specs.PublicOrder.{by_name, record_size, by_hash, by_place}

-- the greatest size of a stream
abbrev pub STREAM_LIMIT : ℕ
STREAM_LIMIT = 1073741824

-- the greatest length of a name
abbrev pub PUBLIC_NAME_LIMIT : ℕ
PUBLIC_NAME_LIMIT = 32006

-- ---- symbol records

abbrev pub flags_of : Bool → ℕ
flags_of function = if function then 2 else 0

-- the size without this field, the kind S_PUB32, the flags, the offset, the section, the name, and one to four zeros
unfoldable pub record_of : PublicRow → List ℕ
record_of row =
    fields (U16 (record_size (length row.name) - 2) ∷ U16 0x110E ∷ U32 (flags_of row.function) ∷ U32 row.offset ∷ U16 row.section ∷ [])
    ++ (row.name ++ replicate (record_size (length row.name) - 14 - length row.name) 0)

abbrev pub records_of : List PublicRow → List ℕ
records_of rows = flat_map record_of rows

-- ---- the hash part

-- how many keys have each bucket
abbrev pub count : List HashKey → ℕ → ℕ
count keys bucket = count_by (λ key. key.bucket == bucket) keys

unfoldable pub counts : List HashKey → List ℕ
counts keys = map (count keys) (range_with_len 0 4096)

-- the offset of a symbol record and one more, and a count of uses
abbrev pub hash_record : HashKey → List ℕ
hash_record key = fields (U32 (key.record_offset + 1) ∷ U32 1 ∷ [])

abbrev pub hash_records : List HashKey → List ℕ
hash_records keys = flat_map hash_record keys

abbrev pub bit_of : ℕ → Bool → ℕ
bit_of n set = if set then 2 ^ n else 0

-- the number whose lowest bits are those that pass
unfoldable pub bits : ℕ → (ℕ → Bool) → ℕ
bits zero test = 0
bits (suc n) test = bits n test + bit_of n (test n)

-- a bit for each of 4,096 buckets, which is set where it has keys, and 32 bits more
abbrev pub has_some : List ℕ → ℕ → Bool
has_some counts bucket = nat_lt 0 (slice_index counts bucket)

abbrev pub bitmap_byte : List ℕ → ℕ → ℕ
bitmap_byte counts place = bits 8 (λ bit. has_some counts (8 * place + bit))

unfoldable pub bitmap : List ℕ → List ℕ
bitmap counts = map (bitmap_byte counts) (range_with_len 0 512) ++ replicate 4 0

-- for each bucket that has keys how many the buckets before it have, which is the number of its first record, counted by
-- twelve bytes
abbrev pub word_of : ℕ → ℕ → List ℕ
word_of first count = if nat_lt 0 count then number_bytes 4 (12 * first) else []

unfoldable pub words : ℕ → List ℕ → List ℕ
words first [] = []
words first (count ∷ counts) = word_of first count ++ words (first + count) counts

-- the signature, the version, the size of the records, the size of the bitmap and the words, and these
unfoldable pub hash_part : List HashKey → List ℕ
hash_part keys =
    fields (U32 0xFFFFFFFF ∷ U32 0xF12F091A ∷ U32 (8 * length keys) ∷ U32 (516 + length (words 0 (counts keys))) ∷ [])
    ++ (hash_records keys ++ (bitmap (counts keys) ++ words 0 (counts keys)))

-- ---- the address map: the offset of each record

abbrev pub address_map : List PlaceKey → List ℕ
address_map keys = flat_map (λ key. number_bytes 4 key.record_offset) keys

-- ---- the streams

-- the size of the hash part, the size of the address map, fields that are zero, and both parts
unfoldable pub publics_of : List HashKey → List PlaceKey → List ℕ
publics_of hashed placed =
    fields (U32 (length (hash_part hashed)) ∷ U32 (4 * length placed) ∷ U32 0 ∷ U32 0 ∷ U16 0 ∷ U16 0 ∷ U32 0 ∷ U32 0 ∷ [])
    ++ (hash_part hashed ++ address_map placed)

-- records stand by the bytes of their names
abbrev pub records_stream : List PublicRow → List ℕ
records_stream rows = records_of (by_name rows)

abbrev pub publics_stream : List PublicRow → List ℕ
publics_stream rows = publics_of (by_hash (by_name rows)) (by_place (by_name rows))

-- a hash part without records
abbrev pub globals_stream : List ℕ
globals_stream = hash_part []
