-- The pieces of a link that can be kept or dropped: the sections of its modules that come into the image and the commons that
-- names mean, in the order of the modules, then the jumps and the local slots that the linker makes, and what they hold. Own.
use Rattle.std.specs.Prelude.{◌≡◌, ◌<◌, ◌≤◌, ◌⊎◌, ℕ, Bool, true, false, not, ◌==◌, ◌&&◌, List, [], ◌++◌, length, map, filter, None, unwrap_or}
use Rattle.std.specs.List.{range_with_len, flat_map, list_any}
use Rattle.coff_records.specs.ObjectFile.{section_total, section_name_of, raw_size_of, flags_of, alignment_of, is_uninitialised, body_of}
use Rattle.section_group.specs.declared.piece.Piece.{Piece}
use Rattle.module_view.specs.Module.{module_at}
use Rattle.section_rules.specs.PlacedSection.{is_placed}
use Rattle.module_view.specs.SymbolLists.{definitions_of}
use Rattle.module_view.specs.declared.definition.Common.{Common}
use Rattle.module_view.specs.declared.definition.Definition.{Definition}
use Rattle.module_view.specs.declared.definition.Place.{Place}
use Rattle.module_view.specs.declared.definition.Place.TheVariants as place
use Rattle.link_pieces.specs.LinkParts.{LinkParts}
use Rattle.link_pieces.specs.NameMeaning.{takes_part}
use Rattle.link_pieces.specs.Commons.{meant_commons, common_piece, IsCommonOf}
use Rattle.link_pieces.specs.LinkerPieces.{linker_pieces, linker_contents, IsLinkerPiece}

-- ---- a section

abbrev pub is_place_in : ℕ → Place → Bool
is_place_in section (place.Section number value) = number == section
is_place_in section (place.Absolute value) = false
is_place_in section place.Slot = false
is_place_in section place.Thunk = false

abbrev pub stands_in : ℕ → Definition → Bool
stands_in section definition = is_place_in section definition.place

-- a definition stands in the section
unfoldable pub is_named : List ℕ → ℕ → Bool
is_named bytes section = list_any (stands_in section) (definitions_of bytes)

-- a section as a unit of layout, without what it holds
abbrev pub piece_of : ℕ → List ℕ → ℕ → Piece
piece_of position bytes section = record {
  «module» = position;
  number = section;
  name = section_name_of bytes section;
  flags = flags_of bytes section;
  size = raw_size_of bytes section;
  align = alignment_of (flags_of bytes section);
  body = None;
  init = not (is_uninitialised bytes section);
  named = is_named bytes section;
}

-- what it holds: an uninitialised section nothing
abbrev pub section_contents : List ℕ → ℕ → List ℕ
section_contents bytes section = unwrap_or (body_of bytes section) []

-- ---- all that come into the image

-- a section that takes part in the link
abbrev pub is_linked : LinkParts → ℕ → List ℕ → ℕ → Bool
is_linked link position bytes section = takes_part link position section && is_placed bytes section

abbrev pub linked_sections : LinkParts → ℕ → List ℕ → List ℕ
linked_sections link position bytes = filter (is_linked link position bytes) (range_with_len 1 (section_total bytes))

-- its sections in the order of their headers, then its commons in the order of their symbols
abbrev pub pieces_in : LinkParts → ℕ → List ℕ → List Piece
pieces_in link position bytes =
    map (piece_of position bytes) (linked_sections link position bytes)
    ++ map (common_piece link.modules position) (meant_commons link position bytes)

-- a common holds nothing
abbrev pub no_contents : Common → List ℕ
no_contents common = []

abbrev pub contents_in : LinkParts → ℕ → List ℕ → List (List ℕ)
contents_in link position bytes =
    map (section_contents bytes) (linked_sections link position bytes)
    ++ map no_contents (meant_commons link position bytes)

abbrev pub module_pieces : LinkParts → List Piece
module_pieces link = flat_map (λ k. pieces_in link k (module_at link.modules k).bytes) (range_with_len 0 (length link.modules))

abbrev pub module_contents : LinkParts → List (List ℕ)
module_contents link = flat_map (λ k. contents_in link k (module_at link.modules k).bytes) (range_with_len 0 (length link.modules))

-- those of the modules, then those that the linker makes
abbrev pub link_pieces : LinkParts → List Piece
link_pieces link = module_pieces link ++ linker_pieces link

abbrev pub link_contents : LinkParts → List (List ℕ)
link_contents link = module_contents link ++ linker_contents link

-- ---- what a piece is

-- a section of its module that comes into the image
pub record IsSectionOf (link : LinkParts) (piece : Piece) : Type 0 where
  pub first : 1 ≤ piece.number
  pub last : piece.number ≤ section_total (module_at link.modules piece.«module»).bytes
  pub linked : is_linked link piece.«module» (module_at link.modules piece.«module»).bytes piece.number ≡ true
  pub is : piece ≡ piece_of piece.«module» (module_at link.modules piece.«module»).bytes piece.number

-- or a common of its module
pub record IsModulePiece (link : LinkParts) (piece : Piece) : Type 0 where
  pub within : piece.«module» < length link.modules
  pub is : IsSectionOf link piece ⊎ IsCommonOf link.modules piece.«module» (module_at link.modules piece.«module»).bytes piece

-- or one that the linker makes
abbrev pub IsPieceOf : LinkParts → Piece → Type 0
IsPieceOf link piece = IsModulePiece link piece ⊎ IsLinkerPiece link piece
