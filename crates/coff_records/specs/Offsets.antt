-- Where the fields stand in the headers and records of an object (PE Format, "COFF File Header (Object and Image)", "Section
-- Table (Section Headers)", "COFF Relocations", "COFF Symbol Table"; for big objects LLVM, `COFF::BigObjHeader` and
-- `COFF::symbol32`).
use Rattle.std.specs.Prelude.{ℕ}

-- ---- the file header of a plain object

abbrev pub FILE_MACHINE : ℕ
FILE_MACHINE = 0

abbrev pub FILE_NUMBER_OF_SECTIONS : ℕ
FILE_NUMBER_OF_SECTIONS = 2

abbrev pub FILE_POINTER_TO_SYMBOL_TABLE : ℕ
FILE_POINTER_TO_SYMBOL_TABLE = 8

abbrev pub FILE_NUMBER_OF_SYMBOLS : ℕ
FILE_NUMBER_OF_SYMBOLS = 12

abbrev pub FILE_SIZE_OF_OPTIONAL_HEADER : ℕ
FILE_SIZE_OF_OPTIONAL_HEADER = 16

-- ---- the header of a big object

abbrev pub BIG_MACHINE : ℕ
BIG_MACHINE = 6

abbrev pub BIG_CLASS : ℕ
BIG_CLASS = 12

abbrev pub BIG_NUMBER_OF_SECTIONS : ℕ
BIG_NUMBER_OF_SECTIONS = 44

abbrev pub BIG_POINTER_TO_SYMBOL_TABLE : ℕ
BIG_POINTER_TO_SYMBOL_TABLE = 48

abbrev pub BIG_NUMBER_OF_SYMBOLS : ℕ
BIG_NUMBER_OF_SYMBOLS = 52

-- ---- a section header; a name field comes first, here and in a symbol

abbrev pub SIZEOF_SHORT_NAME : ℕ
SIZEOF_SHORT_NAME = 8

abbrev pub SECTION_SIZE_OF_RAW_DATA : ℕ
SECTION_SIZE_OF_RAW_DATA = 16

abbrev pub SECTION_POINTER_TO_RAW_DATA : ℕ
SECTION_POINTER_TO_RAW_DATA = 20

abbrev pub SECTION_POINTER_TO_RELOCATIONS : ℕ
SECTION_POINTER_TO_RELOCATIONS = 24

abbrev pub SECTION_NUMBER_OF_RELOCATIONS : ℕ
SECTION_NUMBER_OF_RELOCATIONS = 32

abbrev pub SECTION_CHARACTERISTICS : ℕ
SECTION_CHARACTERISTICS = 36

-- ---- a relocation

abbrev pub RELOCATION_SYMBOL_TABLE_INDEX : ℕ
RELOCATION_SYMBOL_TABLE_INDEX = 4

abbrev pub RELOCATION_TYPE : ℕ
RELOCATION_TYPE = 8

-- ---- a symbol: a plain one, and one of a big object, whose section number has four bytes

abbrev pub SYMBOL_NAME_OFFSET : ℕ
SYMBOL_NAME_OFFSET = 4

abbrev pub SYMBOL_VALUE : ℕ
SYMBOL_VALUE = 8

abbrev pub SYMBOL_SECTION_NUMBER : ℕ
SYMBOL_SECTION_NUMBER = 12

abbrev pub SYMBOL_TYPE : ℕ
SYMBOL_TYPE = 14

abbrev pub SYMBOL_STORAGE_CLASS : ℕ
SYMBOL_STORAGE_CLASS = 16

abbrev pub SYMBOL_NUMBER_OF_AUX_SYMBOLS : ℕ
SYMBOL_NUMBER_OF_AUX_SYMBOLS = 17

abbrev pub BIG_SYMBOL_TYPE : ℕ
BIG_SYMBOL_TYPE = 16

abbrev pub BIG_SYMBOL_STORAGE_CLASS : ℕ
BIG_SYMBOL_STORAGE_CLASS = 18

abbrev pub BIG_SYMBOL_NUMBER_OF_AUX_SYMBOLS : ℕ
BIG_SYMBOL_NUMBER_OF_AUX_SYMBOLS = 19
