-- The sections that the linker makes itself for imports, exports, debuggers and resources, as pieces of a module behind all
-- others (PE Format, "The .idata Section", "The .edata Section (Image Only)", "Debug Directory (Image Only)" and "The .rsrc
-- Section"; the numbers of the pieces, and jumps and slots as pieces, are own).
use Rattle.std.specs.Prelude.{ℕ, ◌+◌, Bool, true, false, ◌==◌, if◌then◌else◌, List, [], ◌∷◌, ◌++◌, replicate, slice_index_or, None, codes}
use Rattle.link_base.specs.PeFormat.{SCN_CNT_CODE, SCN_CNT_INITIALIZED_DATA, SCN_MEM_EXECUTE, SCN_MEM_READ}
use Rattle.section_group.specs.declared.piece.Piece.{Piece}

-- initialised data that can be read
abbrev pub DATA_FLAGS : ℕ
DATA_FLAGS = SCN_CNT_INITIALIZED_DATA + SCN_MEM_READ

-- code that can be run
abbrev pub CODE_FLAGS : ℕ
CODE_FLAGS = SCN_CNT_CODE + (SCN_MEM_EXECUTE + SCN_MEM_READ)

-- a section of initialised data or of code, as a piece of the module at a position, without its bytes
abbrev pub made_piece : ℕ → ℕ → List ℕ → ℕ → ℕ → ℕ → Bool → Piece
made_piece position number name flags align size named = record {
  «module» = position;
  number = number;
  name = name;
  flags = flags;
  size = size;
  align = align;
  body = None;
  init = true;
  named = named;
}

-- ---- the import tables

-- the number of the table of the slots
abbrev pub SLOTS : ℕ
SLOTS = 2

-- one of them, by its number in the module
abbrev pub table_piece : ℕ → ℕ → List ℕ → ℕ → ℕ → Piece
table_piece position number name align size = made_piece position number name DATA_FLAGS align size false

-- a table without bytes is not made
abbrev pub table_if : ℕ → ℕ → List ℕ → ℕ → ℕ → List Piece
table_if position number name align size =
    if size == 0 then [] else table_piece position number name align size ∷ []

abbrev pub size_at : List ℕ → ℕ → ℕ
size_at sizes k = slice_index_or sizes k 0

-- the directory, the lookup tables, the slots, the hints with names and the names of DLLs, of these sizes
unfoldable pub table_pieces : ℕ → List ℕ → List Piece
table_pieces position sizes =
    table_if position 0 (codes ".idata$2") 4 (size_at sizes 0)
    ++ (table_if position 1 (codes ".idata$4") 8 (size_at sizes 1)
    ++ (table_if position SLOTS (codes ".idata$5") 8 (size_at sizes 2)
    ++ (table_if position 3 (codes ".idata$6") 2 (size_at sizes 3)
    ++ table_if position 4 (codes ".idata$7") 1 (size_at sizes 4))))

-- ---- the export table

-- its number
abbrev pub EXPORTS : ℕ
EXPORTS = 5

-- without bytes it is not made
unfoldable pub export_table_pieces : ℕ → ℕ → List Piece
export_table_pieces position size = table_if position EXPORTS (codes ".edata") 4 size

-- ---- the debug directory

-- the number of its entry, and that of the data that the entry names
abbrev pub DEBUG_ENTRY : ℕ
DEBUG_ENTRY = 6

abbrev pub DEBUG_DATA : ℕ
DEBUG_DATA = 7

-- the size of the entry, by that of the data; without data there is none
abbrev pub entry_size : ℕ → ℕ
entry_size size = if size == 0 then 0 else 28

unfoldable pub debug_pieces : ℕ → ℕ → List Piece
debug_pieces position size =
    table_if position DEBUG_ENTRY (codes ".rdata") 4 (entry_size size) ++ table_if position DEBUG_DATA (codes ".rdata") 4 size

-- ---- the resource tree

-- its number
abbrev pub RESOURCES : ℕ
RESOURCES = 8

-- without bytes it is not made
unfoldable pub resource_pieces : ℕ → ℕ → List Piece
resource_pieces position size = table_if position RESOURCES (codes ".rsrc") 4 size

-- the bytes of a table are not known before it has a place: until then it holds nothing
abbrev pub no_bytes : Piece → List ℕ
no_bytes piece = []

-- ---- jumps

-- the number of the jump of the first module
abbrev pub FIRST_THUNK : ℕ
FIRST_THUNK = 16

-- the code of the import in the module at a position, by which it can be called under its own name
abbrev pub thunk_piece : ℕ → ℕ → Piece
thunk_piece position import = made_piece position (FIRST_THUNK + import) (codes ".text") CODE_FLAGS 16 6 true

-- a jump through memory, at an address that is counted from its own end (Intel 64 and IA-32 Architectures, JMP, FF /4)
abbrev pub thunk_bytes : List ℕ
thunk_bytes = 0xFF ∷ 0x25 ∷ 0 ∷ 0 ∷ 0 ∷ 0 ∷ []

-- ---- slots that point to what is linked

-- the number of the first one
abbrev pub FIRST_LOCAL_SLOT : ℕ
FIRST_LOCAL_SLOT = 131072

abbrev pub slot_piece : ℕ → ℕ → Piece
slot_piece position slot = made_piece position (FIRST_LOCAL_SLOT + slot) (codes ".rdata") DATA_FLAGS 8 8 false

-- an address, which a field holds
abbrev pub slot_bytes : List ℕ
slot_bytes = replicate 8 0
