-- A section header, as the 40 bytes that it has (PE Format, "Section Table (Section Headers)").
use Rattle.std.specs.Prelude.{ℕ, ◌-◌, ◌/◌, ◌%◌, ◌^◌, Bool, ◌||◌, ◌&&◌, ◌==◌, if◌then◌else◌, List, [], drop, slice_index, Option, None, is_none, unwrap_or, option_and_then}
use Rattle.std.specs.List.{before_first}
use Rattle.link_base.specs.Bytes.{u16_at, u32_at, bytes_at, is_nul, has_flag}
use Rattle.link_base.specs.Decimal.{decimal_number}
use Rattle.link_base.specs.PeFormat.{SCN_TYPE_NO_PAD, SCN_CNT_UNINITIALIZED_DATA, SCN_LNK_NRELOC_OVFL}
use Rattle.coff_records.specs.Offsets.{SIZEOF_SHORT_NAME, SECTION_SIZE_OF_RAW_DATA, SECTION_POINTER_TO_RAW_DATA, SECTION_POINTER_TO_RELOCATIONS, SECTION_NUMBER_OF_RELOCATIONS, SECTION_CHARACTERISTICS}
use Rattle.coff_records.specs.StringTable.{text_in}

-- ---- its numbers

abbrev pub size_in : List ℕ → ℕ
size_in header = u32_at header SECTION_SIZE_OF_RAW_DATA

abbrev pub data_offset_in : List ℕ → ℕ
data_offset_in header = u32_at header SECTION_POINTER_TO_RAW_DATA

abbrev pub relocations_offset_in : List ℕ → ℕ
relocations_offset_in header = u32_at header SECTION_POINTER_TO_RELOCATIONS

abbrev pub relocation_field_in : List ℕ → ℕ
relocation_field_in header = u16_at header SECTION_NUMBER_OF_RELOCATIONS

abbrev pub flags_in : List ℕ → ℕ
flags_in header = u32_at header SECTION_CHARACTERISTICS

-- ---- its name

-- its name field
abbrev pub name_field_in : List ℕ → List ℕ
name_field_in header = bytes_at header 0 SIZEOF_SHORT_NAME

-- the text of a name field: it ends at its first NUL
unfoldable pub short_name_in : List ℕ → List ℕ
short_name_in header = before_first is_nul (name_field_in header)

-- a section's name that begins with a slash stands in the string table, at the decimal number after it
abbrev pub names_an_offset : List ℕ → Bool
names_an_offset text = slice_index text 0 == 47

-- the offset that a name field writes, where it writes one
unfoldable pub name_offset : List ℕ → Option ℕ
name_offset text = if names_an_offset text then decimal_number (drop 1 text) else None

-- the text that a section's name field refers to, where it does so well
unfoldable pub long_section_name : List ℕ → List ℕ → Option (List ℕ)
long_section_name strings text = option_and_then (text_in strings) (name_offset text)

unfoldable pub section_name_in : List ℕ → List ℕ → List ℕ
section_name_in strings header =
    let text = short_name_in header in
    if names_an_offset text then unwrap_or (long_section_name strings text) [] else text

-- a section's name refers to no text of the string table
unfoldable pub lacks_section_name : List ℕ → List ℕ → Bool
lacks_section_name strings header =
    names_an_offset (short_name_in header) && is_none (long_section_name strings (short_name_in header))

-- ---- what its flags say (PE Format, "Section Flags")

-- bits 20 to 23
abbrev pub alignment_value : ℕ → ℕ
alignment_value flags = (flags / 2 ^ 20) % 16

-- TYPE_NO_PAD is alignment 1, the value 0 is 16, and a value k is two to the k less one
abbrev pub alignment_of : ℕ → ℕ
alignment_of flags =
    if has_flag flags SCN_TYPE_NO_PAD then 1
    else (if alignment_value flags == 0 then 16 else 2 ^ (alignment_value flags - 1))

-- a section that is marked so, or that has no place in the file, has no data
unfoldable pub is_uninitialised_in : List ℕ → Bool
is_uninitialised_in header =
    has_flag (flags_in header) SCN_CNT_UNINITIALIZED_DATA || (data_offset_in header == 0)

-- with this flag and the greatest count the first relocation record holds the real count
unfoldable pub has_overflow_count_in : List ℕ → Bool
has_overflow_count_in header =
    has_flag (flags_in header) SCN_LNK_NRELOC_OVFL && (relocation_field_in header == 0xFFFF)
