-- The public symbols of a link, and where they stand (PE Format, "COFF Symbol Table", "Storage Class" and "Type
-- Representation"; which are public is own).
use Rattle.std.specs.Prelude.{ℕ, ◌+◌, ◌-◌, Bool, true, false, ◌==◌, ◌&&◌, nat_le, if◌then◌else◌, List, [], ◌++◌, length, filter_map, slice_index_or, Option, Some, None, option_map}
use Rattle.std.specs.List.{enumerate_from}
use Rattle.std.specs.Int.Signed.{lt_z}
use Rattle.link_base.specs.NameText.{import_prefix, behind_import}
use Rattle.link_base.specs.PeFormat.{SYM_CLASS_EXTERNAL, SYM_UNDEFINED}
use Rattle.coff_records.specs.ObjectFile.{SymbolView, SymbolEntry, name_in, value_in, section_number_in, section_of_number, class_in, kind_in, symbol_entries}
use Rattle.section_group.specs.declared.piece.Piece.{Piece}
use Rattle.synthetic_sections.specs.LinkerPieces.{FIRST_THUNK, FIRST_LOCAL_SLOT}
use Rattle.module_view.specs.Module.{ModuleView}
use Rattle.module_view.specs.ImportModule.{module_definitions}
use Rattle.module_view.specs.SymbolLists.{commons_of}
use Rattle.module_view.specs.declared.definition.Definition.{Definition}
use Rattle.module_view.specs.declared.definition.Common.{Common}
use Rattle.module_view.specs.declared.definition.Place.{Place}
use Rattle.module_view.specs.declared.definition.Place.TheVariants as place
use Rattle.symbol_names.specs.Lists.{of_each}
use Rattle.link_pieces.specs.LinkParts.{LinkParts}
use Rattle.link_pieces.specs.NameMeaning.{takes_part}
use Rattle.link_pieces.specs.LocalSlots.{slot_names}
use Rattle.link_pieces.specs.Pieces.{link_pieces}
use Rattle.link_pieces.specs.PieceIndex.{piece_index, common_index, linker_index, import_index}
use Rattle.debug_rows.specs.declared.link_publics.PublicPlace.{PublicPlace}

abbrev pub public_at : List ℕ → ℕ → Bool → ℕ → ℕ → PublicPlace
public_at name position function value piece = record { name = name; «module» = position; function = function; piece = piece; value = value }

-- ---- of an object

abbrev pub is_function : SymbolView → Bool
is_function symbol = kind_in symbol == 0x20

-- a section of the module at a position, which may take no part in the link or not come into the image
abbrev pub own_piece : LinkParts → ℕ → ℕ → Option ℕ
own_piece link position section = if takes_part link position section then piece_index link position section else None

-- that of an external symbol
unfoldable pub symbol_piece : LinkParts → ℕ → SymbolView → Option ℕ
symbol_piece link position symbol =
    if (class_in symbol == SYM_CLASS_EXTERNAL) && lt_z SYM_UNDEFINED (section_number_in symbol)
    then own_piece link position (section_of_number (section_number_in symbol))
    else None

abbrev pub symbol_public : LinkParts → ℕ → SymbolEntry → Option PublicPlace
symbol_public link position entry =
    option_map (public_at (name_in entry.1) position (is_function entry.1) (value_in entry.1)) (symbol_piece link position entry.1)

-- the common that its name means
abbrev pub common_public : LinkParts → ℕ → Common → Option PublicPlace
common_public link position common = option_map (public_at common.name position false 0) (common_index link position common.symbol)

-- ---- of an import

-- its slot, and its jump, which the linker makes
abbrev pub made_at : LinkParts → ℕ → List ℕ → Place → Option PublicPlace
made_at link position name place.Slot = option_map (public_at name position false 0) (import_index link position)
made_at link position name place.Thunk = option_map (public_at name (length link.modules) true 0) (linker_index link (FIRST_THUNK + position))
made_at link position name (place.Section section value) = None
made_at link position name (place.Absolute value) = None

abbrev pub made_public : LinkParts → ℕ → Definition → Option PublicPlace
made_public link position definition = made_at link position definition.name definition.place

-- ---- of the linker

-- a piece that is a local slot goes by the import prefix and the name that it points to
abbrev pub is_slot : LinkParts → Piece → Bool
is_slot link piece = (piece.«module» == length link.modules) && nat_le FIRST_LOCAL_SLOT piece.number

abbrev pub slot_name : LinkParts → ℕ → List ℕ
slot_name link number = import_prefix ++ behind_import (slice_index_or (slot_names link) (number - FIRST_LOCAL_SLOT) [])

abbrev pub slot_public : LinkParts → ℕ × Piece → Option PublicPlace
slot_public link (k, piece) =
    if is_slot link piece then Some (public_at (slot_name link piece.number) (length link.modules) false 0 k) else None

-- ---- all

unfoldable pub module_publics : LinkParts → ℕ → ModuleView → List PublicPlace
module_publics link position view =
    filter_map (symbol_public link position) (symbol_entries view.bytes)
    ++ (filter_map (made_public link position) (module_definitions view) ++ filter_map (common_public link position) (commons_of view.bytes))

abbrev pub publics_of : LinkParts → List PublicPlace
publics_of link = of_each (module_publics link) link.modules ++ filter_map (slot_public link) (enumerate_from 0 (link_pieces link))
