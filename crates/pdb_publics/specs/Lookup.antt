-- A public symbol found by its name, through the hash part of the stream of publics (LLVM, "The PDB Public Symbol Stream";
-- what is malformed, and how far it is looked at, is own).
use Rattle.std.specs.Prelude.{◌≡◌, ◌≤◌, ℕ, zero, suc, ◌+◌, ◌-◌, ◌*◌, ◌/◌, ◌%◌, ◌^◌, Bool, true, ◌&&◌, ◌==◌, nat_le, nat_lt, if◌then◌else◌, List, [], slice_index, Option, Some, None, Result, Ok, Err, unwrap_or}
use Rattle.link_base.specs.Bytes.{u16_at, u32_at, bytes_at, has_bytes, text_at}
use Rattle.link_base.specs.NameText.{same_name}
use Rattle.link_base.specs.Refusals.{first_refusal_below}
use Rattle.link_base.specs.declared.kinds.database.PdbKind.{PdbKind}
use Rattle.link_base.specs.declared.kinds.database.PdbKind.TheVariants.{Hash}
use Rattle.pdb_msf.specs.Streams.{stream_of}
use Rattle.pdb_publics.specs.declared.rows.Public.{Public}
use Rattle.pdb_publics.specs.NameHash.{bucket}

-- the bytes of a stream; one that is not there is empty
abbrev pub stream_bytes_of : List ℕ → ℕ → List ℕ
stream_bytes_of file stream = unwrap_or (stream_of file stream) []

-- ---- the parts of the stream of publics: 28 bytes, the hash part and the address map; in the hash part 16 bytes, the
-- records, the bitmap of 516 bytes and the words of buckets

unfoldable pub hash_len : List ℕ → ℕ
hash_len publics = u32_at publics 0

unfoldable pub map_len : List ℕ → ℕ
map_len publics = u32_at publics 4

unfoldable pub records_len : List ℕ → ℕ
records_len publics = u32_at publics 36

-- of the bitmap and the words
unfoldable pub tables_len : List ℕ → ℕ
tables_len publics = u32_at publics 40

unfoldable pub fills : List ℕ → Bool
fills publics = nat_le (16 + records_len publics + tables_len publics) (hash_len publics) && nat_le 516 (tables_len publics)

unfoldable pub has_parts : List ℕ → Bool
has_parts publics =
    has_bytes publics 0 28 && (has_bytes publics 28 (hash_len publics + map_len publics) && (nat_le 16 (hash_len publics) && fills publics))

-- ---- the records of a bucket

-- a bit of a byte, the lowest being the first
abbrev pub is_set : ℕ → ℕ → Bool
is_set byte bit = byte / 2 ^ bit % 2 == 1

abbrev pub bitmap_at : List ℕ → ℕ
bitmap_at publics = 44 + records_len publics

-- the bit of a bucket is set
unfoldable pub has_bucket : List ℕ → ℕ → Bool
has_bucket publics bucket = is_set (slice_index publics (bitmap_at publics + bucket / 8)) (bucket % 8)

-- how many numbers below n pass
unfoldable pub passing : ℕ → (ℕ → Bool) → ℕ
passing zero test = 0
passing (suc n) test = passing n test + (if test n then 1 else 0)

-- how many bits are set before that of a bucket: the number of the bucket's word
abbrev pub word_number : List ℕ → ℕ → ℕ
word_number publics bucket = passing bucket (has_bucket publics)

unfoldable pub word : List ℕ → ℕ → ℕ
word publics number = u32_at publics (bitmap_at publics + 516 + 4 * number)

-- a word is there and counts records, by twelve bytes each
unfoldable pub is_word : List ℕ → ℕ → Bool
is_word publics number = nat_le (516 + 4 * number + 4) (tables_len publics) && (word publics number % 12 == 0)

-- the first record of the bucket with such a word
abbrev pub first_record : List ℕ → ℕ → ℕ
first_record publics number = word publics number / 12

-- a later bit of all 4,128 is set
unfoldable pub has_next : List ℕ → ℕ → Bool
has_next publics number = nat_lt (number + 1) (passing 4128 (has_bucket publics))

-- behind the bucket's last record: the first record of the next bucket that has one, or the end of the records
unfoldable pub end_record : List ℕ → ℕ → ℕ
end_record publics number = if has_next publics number then first_record publics (number + 1) else records_len publics / 8

unfoldable pub has_end : List ℕ → ℕ → Bool
has_end publics number = if has_next publics number then is_word publics (number + 1) else true

-- the words are there, and the range neither descends nor leaves the records
unfoldable pub has_range : List ℕ → ℕ → Bool
has_range publics number =
    (is_word publics number && has_end publics number)
    && (nat_le (first_record publics number) (end_record publics number) && nat_le (8 * end_record publics number) (records_len publics))

-- the range of the bucket with such a word
pub record IsRange (publics : List ℕ) (number : ℕ) (range : ℕ × ℕ) : Type 0 where
  pub there : has_range publics number ≡ true
  pub first : range.0 ≡ first_record publics number
  pub end : range.1 ≡ end_record publics number
  pub ascends : range.0 ≤ range.1
  pub within : 8 * range.1 ≤ records_len publics

-- ---- a symbol record

-- the name of the record at an offset: the record is there, and a NUL in it ends the name
unfoldable pub name_at : List ℕ → ℕ → Option (List ℕ)
name_at records offset =
    if has_bytes records offset 2 && has_bytes records offset (2 + u16_at records offset)
    then text_at (bytes_at records offset (2 + u16_at records offset)) 14 else None

unfoldable pub public_at : List ℕ → ℕ → Public
public_at records offset = record {
  section = u16_at records (offset + 12);
  offset = u32_at records (offset + 8);
  flags = u32_at records (offset + 4);
}

-- ---- the answer

abbrev pub Answer : Type 0
Answer = Result (Option Public) PdbKind

-- what a record with such a name says of a name: nothing where it has another, and that it is malformed where it has none
abbrev pub verdict_of : Option (List ℕ) → Public → List ℕ → Option Answer
verdict_of None public name = Some (Err Hash)
verdict_of (Some text) public name = if same_name text name then Some (Ok (Some public)) else None

-- a record of the hash part holds the offset of a symbol record and one more
unfoldable pub verdict : List ℕ → List ℕ → ℕ → Option Answer
verdict records name entry =
    if entry == 0 then Some (Err Hash) else verdict_of (name_at records (entry - 1)) (public_at records (entry - 1)) name

unfoldable pub hash_entry : List ℕ → ℕ → ℕ
hash_entry publics index = u32_at publics (44 + 8 * index)

-- the first of some records of the hash part that says something
unfoldable pub first_named : List ℕ → List ℕ → List ℕ → ℕ → ℕ → Answer
first_named publics records name first end =
    unwrap_or (first_refusal_below (end - first) (λ index. verdict records name (hash_entry publics (first + index)))) (Ok None)

-- the first record of the name in the range of the name's own bucket
unfoldable pub found_in_bucket : List ℕ → List ℕ → List ℕ → ℕ → Answer
found_in_bucket publics records name number =
    if has_range publics number then first_named publics records name (first_record publics number) (end_record publics number) else Err Hash

unfoldable pub found_in : List ℕ → List ℕ → List ℕ → Answer
found_in publics records name =
    if has_parts publics
    then (if has_bucket publics (bucket name) then found_in_bucket publics records name (word_number publics (bucket name)) else Ok None)
    else Err Hash

abbrev pub found : List ℕ → List ℕ → Answer
found file name = found_in (stream_bytes_of file 6) (stream_bytes_of file 7) name
