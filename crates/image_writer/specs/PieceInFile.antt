-- Where a piece stands in the file of a layout, and files with other bytes there. Own.
use Rattle.std.specs.Prelude.{◌≡◌, ◌≢◌, ℕ, ◌+◌, ◌-◌, List, [], ◌++◌, length, take, drop, slice_index, slice_index_or}
use Rattle.section_group.specs.declared.piece.OutSection.{OutSection}
use Rattle.address_layout.specs.declared.layout.Layout.{Layout}
use Rattle.address_layout.specs.Layout.{placed_at}
use Rattle.address_layout.specs.Places.{row_at}

-- the index of piece j of section i
abbrev pub piece_at : List OutSection → ℕ → ℕ → ℕ
piece_at sections i j = slice_index (row_at sections i).1 j

-- where a piece by its index, which is one of section i, has its first byte in the file
abbrev pub piece_place : Layout → ℕ → ℕ → ℕ
piece_place layout i k =
    (placed_at layout.sections.items i).file + (slice_index layout.pieces.items k - (placed_at layout.sections.items i).rva)

-- bytes put over those from a place on
abbrev pub patched : ℕ → List ℕ → List ℕ → List ℕ
patched place part bytes = take place bytes ++ (part ++ drop (place + length part) bytes)

-- contents that are others, as long as before, at one piece alone
pub record DiffersAt (k : ℕ) (old new : List (List ℕ)) : Type 0 where
  pub same_length : length (slice_index_or new k []) ≡ length (slice_index_or old k [])
  pub others : (other : ℕ) → other ≢ k → slice_index_or new other [] ≡ slice_index_or old other []
