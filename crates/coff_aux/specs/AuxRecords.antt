-- The auxiliary records that a link reads: those of weak externals and those of sections (PE Format, "Auxiliary Format 3:
-- Weak Externals" and "Auxiliary Format 5: Section Definitions"; for big objects LLVM, `COFF::coff_aux_section_definition`).
-- The code has the same numbers in `aux_records`.
use Rattle.std.specs.Prelude.{ℕ, ◌+◌, ◌*◌, Bool, ◌&&◌, ◌==◌, nat_le, if◌then◌else◌, List, length, slice_index, Option, Some, None}
use Rattle.link_base.specs.Bytes.{u16_at, u32_at}
use Rattle.link_base.specs.PeFormat.{SIZEOF_SYMBOL_EX}
use Rattle.coff_records.specs.ObjectFile.{aux_total_of, aux_record}

-- the first auxiliary record of a symbol, whole, where it has one
unfoldable pub first_aux : List ℕ → ℕ → Option (List ℕ)
first_aux bytes symbol = if aux_total_of bytes symbol == 0 then None else Some (aux_record bytes symbol 0)

-- a number that an auxiliary record says, 0 where there is none
abbrev pub said_by : (List ℕ → ℕ) → Option (List ℕ) → ℕ
said_by number None = 0
said_by number (Some aux) = number aux

-- ---- a weak external

abbrev pub WEAK_TAG_INDEX : ℕ
WEAK_TAG_INDEX = 0

abbrev pub WEAK_CHARACTERISTICS : ℕ
WEAK_CHARACTERISTICS = 4

abbrev pub WEAK_EXTERN_SEARCH_NOLIBRARY : ℕ
WEAK_EXTERN_SEARCH_NOLIBRARY = 1

abbrev pub WEAK_EXTERN_SEARCH_LIBRARY : ℕ
WEAK_EXTERN_SEARCH_LIBRARY = 2

abbrev pub WEAK_EXTERN_SEARCH_ALIAS : ℕ
WEAK_EXTERN_SEARCH_ALIAS = 3

-- the record of the symbol that it means where nothing else defines its name
unfoldable pub tag_in : List ℕ → ℕ
tag_in aux = u32_at aux WEAK_TAG_INDEX

-- how libraries are searched for its name
unfoldable pub characteristics_in : List ℕ → ℕ
characteristics_in aux = u32_at aux WEAK_CHARACTERISTICS

-- ---- a section

abbrev pub SECTION_NUMBER : ℕ
SECTION_NUMBER = 12

abbrev pub SECTION_SELECTION : ℕ
SECTION_SELECTION = 14

abbrev pub SECTION_HIGH_NUMBER : ℕ
SECTION_HIGH_NUMBER = 16

abbrev pub COMDAT_SELECT_NODUPLICATES : ℕ
COMDAT_SELECT_NODUPLICATES = 1

abbrev pub COMDAT_SELECT_ANY : ℕ
COMDAT_SELECT_ANY = 2

abbrev pub COMDAT_SELECT_SAME_SIZE : ℕ
COMDAT_SELECT_SAME_SIZE = 3

abbrev pub COMDAT_SELECT_EXACT_MATCH : ℕ
COMDAT_SELECT_EXACT_MATCH = 4

abbrev pub COMDAT_SELECT_ASSOCIATIVE : ℕ
COMDAT_SELECT_ASSOCIATIVE = 5

abbrev pub COMDAT_SELECT_LARGEST : ℕ
COMDAT_SELECT_LARGEST = 6

-- how one of several COMDAT sections is selected
unfoldable pub selection_in : List ℕ → ℕ
selection_in aux = slice_index aux SECTION_SELECTION

-- the number of the section that it is selected with; a record of a big object has two bytes more of it
unfoldable pub associated_in : List ℕ → ℕ
associated_in aux =
    u16_at aux SECTION_NUMBER
    + (if length aux == SIZEOF_SYMBOL_EX then 0x1_0000 * u16_at aux SECTION_HIGH_NUMBER else 0)

-- a selection of the format
abbrev pub is_selection : ℕ → Bool
is_selection selection =
    nat_le COMDAT_SELECT_NODUPLICATES selection && nat_le selection COMDAT_SELECT_LARGEST
