-- The header of an object file, and the numbers that it gives. There are two forms: plain objects (PE Format, "COFF File
-- Header (Object and Image)"), and big objects, which have room for more sections (LLVM, `COFF::BigObjHeader`).
use Rattle.std.specs.Prelude.{ℕ, ◌+◌, Bool, ◌&&◌, ◌==◌, if◌then◌else◌, List, [], ◌∷◌, drop}
use Rattle.link_base.specs.Bytes.{u16_at, u32_at}
use Rattle.link_base.specs.NameText.{begins}
use Rattle.link_base.specs.PeFormat.{SIZEOF_FILE_HEADER, SIZEOF_BIG_OBJECT_HEADER, SIZEOF_SYMBOL, SIZEOF_SYMBOL_EX}
use Rattle.coff_records.specs.Offsets.{FILE_MACHINE, FILE_NUMBER_OF_SECTIONS, FILE_POINTER_TO_SYMBOL_TABLE, FILE_NUMBER_OF_SYMBOLS, FILE_SIZE_OF_OPTIONAL_HEADER, BIG_MACHINE, BIG_CLASS, BIG_NUMBER_OF_SECTIONS, BIG_POINTER_TO_SYMBOL_TABLE, BIG_NUMBER_OF_SYMBOLS}

-- ---- the form

-- no machine, 0xFFFF in the place of the count of sections, and the version 2
abbrev pub big_object_start : List ℕ
big_object_start = 0 ∷ 0 ∷ 0xFF ∷ 0xFF ∷ 2 ∷ 0 ∷ []

-- the class identifier of big objects (LLVM, `COFF::BigObjMagic`)
unfoldable pub big_object_class : List ℕ
big_object_class =
    0xC7 ∷ 0xA1 ∷ 0xBA ∷ 0xD1 ∷ 0xEE ∷ 0xBA ∷ 0xA9 ∷ 0x4B ∷ 0xAF ∷ 0x20 ∷ 0xFA ∷ 0xF6 ∷ 0x6A ∷ 0xA4 ∷ 0xDC ∷ 0xB8 ∷ []

-- every other object is a plain one
unfoldable pub is_big_object : List ℕ → Bool
is_big_object file = begins file big_object_start && begins (drop BIG_CLASS file) big_object_class

-- the number for big objects, or for plain ones
abbrev pub by_form : List ℕ → ℕ → ℕ → ℕ
by_form file big plain = if is_big_object file then big else plain

-- ---- the header's size, and that of a symbol record

unfoldable pub header_size : List ℕ → ℕ
header_size file = by_form file SIZEOF_BIG_OBJECT_HEADER SIZEOF_FILE_HEADER

unfoldable pub symbol_size : List ℕ → ℕ
symbol_size file = by_form file SIZEOF_SYMBOL_EX SIZEOF_SYMBOL

-- ---- the numbers of the header

unfoldable pub machine_of : List ℕ → ℕ
machine_of file = u16_at file (by_form file BIG_MACHINE FILE_MACHINE)

unfoldable pub section_total : List ℕ → ℕ
section_total file = by_form file (u32_at file BIG_NUMBER_OF_SECTIONS) (u16_at file FILE_NUMBER_OF_SECTIONS)

-- an optional header stands between the header of a plain object and its section headers
unfoldable pub section_headers_offset : List ℕ → ℕ
section_headers_offset file =
    by_form file SIZEOF_BIG_OBJECT_HEADER (SIZEOF_FILE_HEADER + u16_at file FILE_SIZE_OF_OPTIONAL_HEADER)

-- where the symbol table begins, or 0
unfoldable pub symbols_offset : List ℕ → ℕ
symbols_offset file = u32_at file (by_form file BIG_POINTER_TO_SYMBOL_TABLE FILE_POINTER_TO_SYMBOL_TABLE)

-- there are no symbol records where the pointer to them is 0 (own)
unfoldable pub record_total : List ℕ → ℕ
record_total file =
    if symbols_offset file == 0 then 0
    else u32_at file (by_form file BIG_NUMBER_OF_SYMBOLS FILE_NUMBER_OF_SYMBOLS)
