-- The bytes of pieces of a section in the file of an image, by their indexes, and the same file with other bytes in their place.
use Rattle.std.specs.Prelude.{◌≤◌, ◌<◌, ℕ, ◌+◌, List, [], ◌∷◌, length, take, drop, slice_index, slice_index_or}
use Rattle.link_base.specs.Bytes.{bytes_at}
use Rattle.section_group.specs.declared.piece.Piece.{Piece}
use Rattle.section_group.specs.SectionOrder.{no_piece}
use Rattle.address_layout.specs.declared.layout.Layout.{Layout}
use Rattle.address_layout.specs.Layout.{placed_at}
use Rattle.image_writer.specs.PieceInFile.{piece_place, patched}

abbrev pub size_at : List Piece → ℕ → ℕ
size_at pieces k = (slice_index_or pieces k no_piece).size

-- the bytes of pieces of a section in a file, one after another
abbrev pub bytes_of_piece : Layout → List Piece → ℕ → List ℕ → ℕ → List ℕ
bytes_of_piece layout pieces section file k = bytes_at file (piece_place layout section k) (size_at pieces k)

-- the same file with a table in their place
unfoldable pub written : Layout → List Piece → ℕ → List ℕ → List ℕ → List ℕ → List ℕ
written layout pieces section [] table file = file
written layout pieces section (k ∷ ks) table file =
    written layout pieces section ks (drop (size_at pieces k) table) (patched (piece_place layout section k) (take (size_at pieces k) table) file)

-- a piece of a section that has bytes lies in a file of this length
pub record LiesIn (layout : Layout) (pieces : List Piece) (section len k : ℕ) : Type 0 where
  pub there : k < length pieces
  pub placed : k < length layout.pieces.items
  pub above : 0 < size_at pieces k → (placed_at layout.sections.items section).rva ≤ slice_index layout.pieces.items k
  pub inside : 0 < size_at pieces k → piece_place layout section k + size_at pieces k ≤ len
