-- Which piece a section or a common of a module is, and which one is of a number of those that the linker makes. Own.
use Rattle.std.specs.Prelude.{◌≡◌, ℕ, ◌+◌, ◌-◌, Bool, ◌&&◌, ◌==◌, nat_lt, if◌then◌else◌, List, length, slice_index_or, Option, Some, None, option_and_then}
use Rattle.link_base.specs.Bytes.{first_below}
use Rattle.section_group.specs.declared.piece.Piece.{Piece}
use Rattle.section_group.specs.SectionOrder.{no_piece}
use Rattle.link_pieces.specs.LinkParts.{LinkParts}
use Rattle.link_pieces.specs.Commons.{FIRST_COMMON}
use Rattle.synthetic_sections.specs.LinkerPieces.{FIRST_LOCAL_SLOT}
use Rattle.link_imports.specs.Imports.{is_import}
use Rattle.link_pieces.specs.LocalSlots.{slot_names, slot_number}
use Rattle.link_pieces.specs.Pieces.{link_pieces}

-- ---- a piece, by its number in its module

abbrev pub is_numbered : ℕ → ℕ → Piece → Bool
is_numbered position number piece = (piece.«module» == position) && (piece.number == number)

-- it is a section of one of so many modules: the numbers of sections are below those of commons
abbrev pub is_section : ℕ → Piece → Bool
is_section count piece = nat_lt piece.«module» count && nat_lt piece.number FIRST_COMMON

abbrev pub is_section_of : ℕ → ℕ → ℕ → Piece → Bool
is_section_of count position section piece = is_section count piece && is_numbered position section piece

abbrev pub is_common_of : ℕ → ℕ → Piece → Bool
is_common_of position symbol piece = is_numbered position (FIRST_COMMON + symbol) piece

abbrev pub holds : (Piece → Bool) → List Piece → ℕ → Bool
holds test pieces k = test (slice_index_or pieces k no_piece)

-- ---- among the pieces of a link

-- the piece that is a section of the module at a position, where that comes into the image
abbrev pub piece_index : LinkParts → ℕ → ℕ → Option ℕ
piece_index link position section =
    first_below (length (link_pieces link)) (holds (is_section_of (length link.modules) position section) (link_pieces link))

-- the piece that is a common of the module at a position, by the record of its symbol, where some name means it
abbrev pub common_index : LinkParts → ℕ → ℕ → Option ℕ
common_index link position symbol =
    first_below (length (link_pieces link)) (holds (is_common_of position symbol) (link_pieces link))

-- the piece that the linker makes, by its number, where it makes one
abbrev pub linker_index : LinkParts → ℕ → Option ℕ
linker_index link number =
    first_below (length (link_pieces link)) (holds (is_numbered (length link.modules) number) (link_pieces link))

-- the piece that is the slot of a name, where the link refers to it
abbrev pub slot_index : LinkParts → List ℕ → Option ℕ
slot_index link name =
    option_and_then (λ slot. linker_index link (FIRST_LOCAL_SLOT + slot)) (slot_number (slot_names link) name)

-- ---- behind the pieces

-- the number of the import that is the module at a position, as what pieces can lead to: it stands behind those of the pieces
abbrev pub import_index : LinkParts → ℕ → Option ℕ
import_index link position =
    if is_import link.modules position then Some (length (link_pieces link) + position) else None

-- ---- an index

-- rows by modules and by numbers, one after the other: where each starts, and where the last one ends
pub record RowsView : Type 0 where
  pub starts : List ℕ
  pub pieces : List (Option ℕ)

abbrev pub row_start : RowsView → ℕ → ℕ
row_start rows position = slice_index_or rows.starts position 0

-- what they say: nothing beyond a row
abbrev pub indexed : RowsView → ℕ → ℕ → Option ℕ
indexed rows position number =
    if nat_lt (row_start rows position + number) (row_start rows (position + 1))
    then slice_index_or rows.pieces (row_start rows position + number) None
    else None

-- the pieces that the linker makes: the jumps by their numbers, and the local slots from the first number on
pub record LinkerView : Type 0 where
  pub made : List (Option ℕ)
  pub slots : List (Option ℕ)

abbrev pub linker_indexed : LinkerView → ℕ → Option ℕ
linker_indexed rows number =
    if nat_lt number FIRST_LOCAL_SLOT then slice_index_or rows.made number None
    else slice_index_or rows.slots (number - FIRST_LOCAL_SLOT) None

-- rows for sections, for commons and for what the linker makes, with the names of the local slots, and the numbers of the
-- imports by the positions of their modules
pub record IndexView : Type 0 where
  pub sections : RowsView
  pub commons : RowsView
  pub slots : List (List ℕ)
  pub linker : LinkerView
  pub imports : List (Option ℕ)

-- what it says of the slot of a name
abbrev pub slot_indexed : IndexView → List ℕ → Option ℕ
slot_indexed index name =
    option_and_then (λ slot. linker_indexed index.linker (FIRST_LOCAL_SLOT + slot)) (slot_number index.slots name)

-- they tell the piece of each
pub record IsPieceIndex (link : LinkParts) (index : IndexView) : Type 0 where
  pub sections : (position section : ℕ) → indexed index.sections position section ≡ piece_index link position section
  pub commons : (position symbol : ℕ) → indexed index.commons position symbol ≡ common_index link position symbol
  pub linker : (number : ℕ) → linker_indexed index.linker number ≡ linker_index link number
  pub imports : (position : ℕ) → slice_index_or index.imports position None ≡ import_index link position
  pub names : index.slots ≡ slot_names link
  pub slots : (name : List ℕ) → slot_indexed index name ≡ slot_index link name
