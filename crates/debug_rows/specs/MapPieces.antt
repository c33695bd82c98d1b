-- The pieces that a map lists, in its order. Own.
use Rattle.std.specs.Prelude.{ℕ, ◌<◌, nat_lt, if◌then◌else◌, List, [], length, map, slice_index, slice_index_or, Option, Some, None, codes}
use Rattle.std.specs.List.{All, flat_map, filter_map}
use Rattle.std.specs.Ordering.{nat_cmp, then_cmp, on}
use Rattle.std.specs.declared.cmp.Ordering.{Ordering}
use Rattle.link_base.specs.NameText.{same_name}
use Rattle.section_group.specs.declared.piece.Piece.{Piece}
use Rattle.section_group.specs.SectionOrder.{no_piece}
use Rattle.section_group.specs.Uniqueness.{SectionRow}
use Rattle.sorted_lists.specs.Order.{in_order}
use Rattle.map_file.specs.declared.rows.MapPiece.{MapPiece}
use Rattle.debug_rows.specs.declared.piece_rows.PieceKey.{PieceKey}

-- where a piece stands, and which it is
abbrev pub key_of : Piece → ℕ → ℕ → PieceKey
key_of piece rva k = record { rva = rva; «module» = piece.«module»; number = piece.number; index = k }

-- the piece of an index, where there is one
abbrev pub key_at : List Piece → List ℕ → ℕ → Option PieceKey
key_at pieces rvas k =
    if nat_lt k (length pieces) then Some (key_of (slice_index_or pieces k no_piece) (slice_index rvas k) k) else None

-- those of a section; the table of base relocations has none
unfoldable pub section_keys : List Piece → List ℕ → SectionRow → List PieceKey
section_keys pieces rvas section =
    if same_name section.name (codes ".reloc") then [] else filter_map (key_at pieces rvas) section.pieces

abbrev pub piece_keys : List Piece → List ℕ → List SectionRow → List PieceKey
piece_keys pieces rvas sections = flat_map (section_keys pieces rvas) sections

-- each is that of a piece
abbrev pub AreWithin : List Piece → List PieceKey → Type 0
AreWithin pieces keys = All (λ key. key.index < length pieces) keys

-- by the RVA, then by the module and the number
abbrev pub key_cmp : PieceKey → PieceKey → Ordering
key_cmp =
    then_cmp (on (λ key. key.rva) nat_cmp)
    (then_cmp (on (λ key. key.«module») nat_cmp)
    (then_cmp (on (λ key. key.number) nat_cmp)
    (on (λ key. key.index) nat_cmp)))

abbrev pub map_piece : Piece → ℕ → MapPiece
map_piece piece rva = record { rva = rva; size = piece.size; «module» = piece.«module»; name = piece.name }

abbrev pub row_of : List Piece → PieceKey → MapPiece
row_of pieces key = map_piece (slice_index_or pieces key.index no_piece) key.rva

-- the pieces that stand in sections, in order
abbrev pub map_pieces_of : List Piece → List ℕ → List SectionRow → List MapPiece
map_pieces_of pieces rvas sections = map (row_of pieces) (in_order key_cmp (piece_keys pieces rvas sections))
