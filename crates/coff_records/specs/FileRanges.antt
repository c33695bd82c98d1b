-- What of an object is in the file: ranges that its headers and records name, by their places. Own; the fields are those of the
-- PE Format specification.
use Rattle.std.specs.Prelude.{ℕ, ◌+◌, ◌*◌, ◌<◌, ◌≤◌, Bool, ◌||◌, ◌&&◌, not, ◌==◌, nat_lt, if◌then◌else◌, List, length}
use Rattle.link_base.specs.Bytes.{u32_at}
use Rattle.link_base.specs.PeFormat.{SIZEOF_SECTION_HEADER, SIZEOF_RELOCATION}
use Rattle.coff_records.specs.ObjectHeader.{header_size, section_total, section_headers_offset, record_total, symbol_size}
use Rattle.coff_records.specs.StringTable.{string_table_offset, string_table_size}
use Rattle.coff_records.specs.SectionHeader.{size_in, data_offset_in, relocations_offset_in, relocation_field_in, is_uninitialised_in, has_overflow_count_in}
use Rattle.coff_records.specs.ObjectFile.{record_offset}

-- a range of bytes goes beyond the end of the file; an empty one never does
abbrev pub leaves_file : List ℕ → ℕ → ℕ → Bool
leaves_file file offset count = nat_lt 0 count && nat_lt (length file) (offset + count)

-- ---- headers

-- the file header or the section headers leave the file
unfoldable pub is_truncated : List ℕ → Bool
is_truncated file =
    nat_lt (length file) (header_size file)
    || leaves_file file (section_headers_offset file) (SIZEOF_SECTION_HEADER * section_total file)

-- ---- a section's data, and its relocations

-- the data of an initialised section leave the file
unfoldable pub body_leaves : List ℕ → List ℕ → Bool
body_leaves file header =
    not (is_uninitialised_in header) && leaves_file file (data_offset_in header) (size_in header)

-- the first record leaves the file, counts nothing, or counts more than there are
unfoldable pub counted_leave : List ℕ → ℕ → Bool
counted_leave file offset =
    leaves_file file offset SIZEOF_RELOCATION
    || ((u32_at file offset == 0) || leaves_file file offset (SIZEOF_RELOCATION * u32_at file offset))

-- the relocations leave the file, or the first record, where it has their count, has none
unfoldable pub relocations_leave : List ℕ → List ℕ → Bool
relocations_leave file header =
    if has_overflow_count_in header then counted_leave file (relocations_offset_in header)
    else leaves_file file (relocations_offset_in header) (SIZEOF_RELOCATION * relocation_field_in header)

-- ---- symbol records, and the string table behind them

-- a record goes beyond the end of the file
abbrev pub record_leaves : List ℕ → ℕ → Bool
record_leaves file index = nat_lt (length file) (record_offset file index + symbol_size file)

-- all symbol records are in the file
pub record HasRecords (file : List ℕ) : Type 0 where
  pub whole : (index : ℕ) → index < record_total file → record_offset file index + symbol_size file ≤ length file

-- the table itself goes beyond the end of the file
unfoldable pub table_leaves : List ℕ → Bool
table_leaves file = leaves_file file (string_table_offset file) (string_table_size file)
