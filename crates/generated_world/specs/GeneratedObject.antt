-- An object of a generated program, field by field (PE Format, "COFF File Header (Object and Image)", "Section Table
-- (Section Headers)", "COFF Relocations (Object Only)", "COFF Symbol Table" and "COFF String Table"). Which functions an
-- object means is own.
use Rattle.std.specs.Prelude.{ℕ, ◌+◌, ◌-◌, ◌*◌, ◌%◌, List, [], ◌∷◌, ◌++◌, length, take, replicate, codes}
use Rattle.std.specs.Fmt.{decimal}
use Rattle.link_base.specs.PeFormat.{FILE_MACHINE_AMD64, REL_AMD64_REL32, REL_AMD64_ADDR64, SYM_CLASS_EXTERNAL}
use Rattle.link_base.specs.Fields.{fields}
use Rattle.link_base.specs.declared.numbers.LeNumber.TheVariants.{U8, U16, U32, U64}

-- ---- names

abbrev pub object_name : ℕ → List ℕ
object_name i = codes "o" ++ decimal i

abbrev pub function_name : ℕ → List ℕ
function_name i = codes "f" ++ decimal i

-- the first eight bytes of a name, with NULs behind a shorter one
unfoldable pub short_name : List ℕ → List ℕ
short_name name = take 8 name ++ replicate (8 - length name) 0

-- ---- the functions that a function means, of so many

-- the one that it calls
abbrev pub called : ℕ → ℕ → ℕ
called count i = (i + 1) % count

-- the one whose address it holds
abbrev pub addressed : ℕ → ℕ → ℕ
addressed count i = (7 * i + 3) % count

-- ---- the parts of an object

-- machine, one section, no time, the place of the symbol table and its three records, no optional header, no characteristics
unfoldable pub file_header : List ℕ
file_header = fields (U16 FILE_MACHINE_AMD64 ∷ U16 1 ∷ U32 0 ∷ U32 96 ∷ U32 3 ∷ U16 0 ∷ U16 0 ∷ [])

-- code, of 16 bytes' alignment, that can be executed and read
abbrev pub TEXT_FLAGS : ℕ
TEXT_FLAGS = 0x60500020

-- no size and no address in memory, the size and the place of the data, the place of the relocations, no line numbers, two
-- relocations, and the flags
unfoldable pub section_header : List ℕ
section_header =
    short_name (codes ".text")
    ++ fields (U32 0 ∷ U32 0 ∷ U32 16 ∷ U32 60 ∷ U32 76 ∷ U32 0 ∷ U16 2 ∷ U16 0 ∷ U32 TEXT_FLAGS ∷ [])

-- `call` with room for a distance, `ret`, two times `nop`, and room for an address
unfoldable pub code : List ℕ
code = fields (U8 0xE8 ∷ U32 0 ∷ U8 0xC3 ∷ U8 0x90 ∷ U8 0x90 ∷ U64 0 ∷ [])

-- the offset of the field, the index of the symbol record, and the type
unfoldable pub relocation : ℕ → ℕ → ℕ → List ℕ
relocation offset symbol_index type = fields (U32 offset ∷ U32 symbol_index ∷ U16 type ∷ [])

-- the type of a symbol that is a function (PE Format, "Type Representation")
abbrev pub FUNCTION : ℕ
FUNCTION = 0x20

-- an external function at the start of a section, or one that is not defined where the number of the section is 0
unfoldable pub symbol : ℕ → ℕ → List ℕ
symbol i section_number =
    short_name (function_name i) ++ fields (U32 0 ∷ U16 section_number ∷ U16 FUNCTION ∷ U8 SYM_CLASS_EXTERNAL ∷ U8 0 ∷ [])

-- ---- the object

-- the symbol table has three records also where two of them have one name: the function, the one that it calls, and the
-- one whose address it holds; the string table has its size alone
unfoldable pub generated_object : ℕ → ℕ → List ℕ
generated_object count i =
    file_header
    ++ section_header
    ++ code
    ++ relocation 1 1 REL_AMD64_REL32
    ++ relocation 8 2 REL_AMD64_ADDR64
    ++ symbol i 1
    ++ symbol (called count i) 0
    ++ symbol (addressed count i) 0
    ++ fields (U32 4 ∷ [])
