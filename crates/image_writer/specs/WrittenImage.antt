-- The image that a layout of sections and pieces means, and what is asked of the layout (PE Format, "Section Table
-- (Section Headers)"; the rest is own).
use Rattle.std.specs.Prelude.{◌≡◌, ◌≤◌, ◌<◌, ℕ, ◌+◌, ◌%◌, ◌^◌, ◌==◌, IsTrue, if◌then◌else◌, List, [], ◌∷◌, length, map, slice_index, slice_index_or}
use Rattle.std.specs.List.{All, flat_map}
use Rattle.link_base.specs.PeFormat.{PAGE_SIZE}
use Rattle.link_base.specs.Limits.{SECTION_LIMIT, IMAGE_LIMIT}
use Rattle.section_group.specs.declared.piece.Piece.{Piece}
use Rattle.section_group.specs.declared.piece.OutSection.{OutSection}
use Rattle.section_group.specs.SectionOrder.{no_piece}
use Rattle.section_group.specs.PieceContents.{HasItsBytes}
use Rattle.section_group.specs.Uniqueness.{SectionRow as OutRow, rows_of}
use Rattle.address_layout.specs.declared.layout.Placed.{Placed}
use Rattle.address_layout.specs.declared.layout.Layout.{Layout}
use Rattle.address_layout.specs.Places.{row_at, piece_in, piece_end, piece_floor, end_before, file_before}
use Rattle.address_layout.specs.Layout.{all_pieces, placed_at}
use Rattle.address_layout.specs.Growth.{last_end, raw_end}
use Rattle.image_writer.specs.declared.headers.Headers.{Headers}
use Rattle.image_writer.specs.declared.headers.SectionHeader.{SectionHeader}
use Rattle.image_writer.specs.HeaderTable.{size_of_headers}
use Rattle.image_writer.specs.ExpectedImage.{PlacedPiece, ImagePlan}

-- ---- the plan

-- what the section table says of a section
abbrev pub header_row : OutRow → Placed → SectionHeader
header_row row placed = record {
  name = row.name;
  size = placed.size;
  rva = placed.rva;
  raw_size = placed.raw;
  file_offset = placed.file;
  flags = row.flags;
}

abbrev pub section_rows : List OutRow → List Placed → List SectionHeader
section_rows [] placed = []
section_rows (row ∷ rows) [] = []
section_rows (row ∷ rows) (place ∷ placed) = header_row row place ∷ section_rows rows placed

-- a piece by its index, at its RVA and with its contents, which are lists by the base
abbrev pub placed_piece : List ℕ → (ℕ → List (List ℕ)) → ℕ → PlacedPiece
placed_piece rvas contents k = record { rva = slice_index rvas k; bytes = λ base. slice_index_or (contents base) k [] }

-- what a section holds
abbrev pub section_pieces : List ℕ → (ℕ → List (List ℕ)) → OutRow → List PlacedPiece
section_pieces rvas contents row = map (placed_piece rvas contents) row.pieces

-- contents that do not depend on the base
abbrev pub at_each_base : List (List ℕ) → ℕ → List (List ℕ)
at_each_base contents base = contents

-- the plan of an image with these sections at these places, and these RVAs and contents of the pieces by their indexes
unfoldable pub written_plan : Headers → List OutRow → List Placed → List ℕ → ℕ → (ℕ → List (List ℕ)) → ImagePlan
written_plan headers rows placed rvas image contents = record {
  headers = headers;
  rows = section_rows rows placed;
  size = image;
  pieces = flat_map (section_pieces rvas contents) rows;
}

-- the plan of a layout
abbrev pub layout_plan : Headers → List OutSection → Layout → (ℕ → List (List ℕ)) → ImagePlan
layout_plan headers sections layout contents = written_plan headers (rows_of sections) layout.sections.items layout.pieces.items layout.image contents

-- ---- layouts that can be written

-- the RVA of a piece of a section
abbrev pub place_in : List ℕ → List ℕ × List ℕ → ℕ → ℕ
place_in rvas row j = slice_index rvas (slice_index row.1 j)

-- a section stands on a page at or above the end before it; its pieces ascend from its start, the initialised ones lie in
-- its raw data, and those with bytes in its size
pub record IsSectionLaidOut (pieces : List Piece) (rvas : List ℕ) (row : List ℕ × List ℕ) (end_before file_before : ℕ) (placed : Placed) : Type 0 where
  pub aligned : placed.rva % PAGE_SIZE ≡ 0
  pub above : end_before ≤ placed.rva
  pub ascending : (j : ℕ) → j < length row.1 → piece_floor pieces row placed.rva (place_in rvas row) j ≤ place_in rvas row j
  pub in_raw : (j : ℕ) → j < length row.1 → IsTrue (piece_in pieces row j).init → piece_end pieces row (place_in rvas row) j ≤ placed.rva + placed.raw
  pub in_size : (j : ℕ) → j < length row.1 → 0 < (piece_in pieces row j).size → piece_end pieces row (place_in rvas row) j ≤ placed.rva + placed.size
  pub file : placed.file ≡ (if placed.raw == 0 then 0 else file_before)

-- the headers have room for the sections, each of which is laid out, and the last ends inside the image and the file
pub record IsLaidOut (pieces : List Piece) (sections : List OutSection) (layout : Layout) : Type 0 where
  pub headers : layout.headers ≡ size_of_headers (length sections)
  pub few : length sections ≤ SECTION_LIMIT
  pub section_for_each : length layout.sections.items ≡ length sections
  pub rva_for_each : length layout.pieces.items ≡ length pieces
  pub within : All (λ k. k < length pieces) (all_pieces sections)
  pub each : (i : ℕ) → i < length sections → IsSectionLaidOut pieces layout.pieces.items (row_at sections i) (end_before layout.headers (placed_at layout.sections.items) i) (file_before layout.headers (placed_at layout.sections.items) i) (placed_at layout.sections.items i)
  pub inside : last_end layout ≤ layout.image
  pub small : layout.image ≤ IMAGE_LIMIT
  pub file : raw_end layout < 2 ^ 32

-- ---- contents that can be written

-- contents of pieces, by their indexes, that have their room: an initialised piece has no more than its size, and another has
-- none
abbrev pub HasRoom : List Piece → List (List ℕ) → ℕ → Type 0
HasRoom pieces contents k =
    (length (slice_index_or contents k []) ≤ (slice_index_or pieces k no_piece).size)
    × (0 < length (slice_index_or contents k []) → IsTrue (slice_index_or pieces k no_piece).init)

abbrev pub HaveRoom : List Piece → List OutSection → List (List ℕ) → Type 0
HaveRoom pieces sections contents = All (HasRoom pieces contents) (all_pieces sections)

-- each initialised piece of a section has its bytes
abbrev pub HasContents : List Piece → List OutSection → Type 0
HasContents pieces sections = All (HasItsBytes pieces) (all_pieces sections)
