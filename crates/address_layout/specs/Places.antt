-- The least places (PE Format, "Optional Header Windows-Specific Fields", SectionAlignment and FileAlignment; the rules for
-- pieces are own).
use Rattle.std.specs.Prelude.{◌≡◌, ℕ, zero, suc, ◌+◌, ◌-◌, ◌*◌, ◌%◌, ◌<◌, ◌≤◌, ◌⊎◌, Bool, false, ◌==◌, IsTrue, List, [], map, length, slice_index, slice_index_or, codes, if◌then◌else◌}
use Rattle.link_base.specs.PeFormat.{PAGE_SIZE, FILE_ALIGNMENT, SECTION_HEADERS_OFFSET, SIZEOF_SECTION_HEADER}
use Rattle.section_group.specs.declared.piece.Piece.{Piece}
use Rattle.section_group.specs.declared.piece.OutSection.{OutSection}
use Rattle.section_group.specs.Merging.{same_name}
use Rattle.section_group.specs.SectionOrder.{no_piece}
use Rattle.address_layout.specs.declared.layout.Placed.{Placed}

-- x is a multiple of the step at or above a number, and no lesser number is both
pub record IsLeastMultiple (step low x : ℕ) : Type 0 where
  pub multiple : x % step ≡ 0
  pub above : low ≤ x
  pub least : (y : ℕ) → y % step ≡ 0 → low ≤ y → x ≤ y

-- ---- a section and its pieces, counted from 0 in their order

-- a section as its name and the indexes of its pieces
abbrev pub section_row : OutSection → List ℕ × List ℕ
section_row section = (section.name, section.pieces.items)

abbrev pub row_at : List OutSection → ℕ → List ℕ × List ℕ
row_at sections i = slice_index_or (map section_row sections) i ([], [])

abbrev pub piece_in : List Piece → List ℕ × List ℕ → ℕ → Piece
piece_in pieces row j = slice_index_or pieces (slice_index row.1 j) no_piece

-- the rows of the exception table stand one after the other
abbrev pub alignment_in : List Piece → List ℕ × List ℕ → ℕ → ℕ
alignment_in pieces row j = if same_name row.0 (codes ".pdata") then 4 else (piece_in pieces row j).align

-- the end of a piece that stands at its place
abbrev pub piece_end : List Piece → List ℕ × List ℕ → (ℕ → ℕ) → ℕ → ℕ
piece_end pieces row place j = place j + (piece_in pieces row j).size

-- what a piece stands at or above: the end of the piece before it, or the section's start
abbrev pub piece_floor : List Piece → List ℕ × List ℕ → ℕ → (ℕ → ℕ) → ℕ → ℕ
piece_floor pieces row start place zero = start
piece_floor pieces row start place (suc j) = piece_end pieces row place j

-- the end of the last initialised piece, or the section's start where none is
abbrev pub IsInitialisedEnd : List Piece → List ℕ × List ℕ → ℕ → (ℕ → ℕ) → ℕ → Type 0
IsInitialisedEnd pieces row start place end =
    (((j : ℕ) → j < length row.1 → (piece_in pieces row j).init ≡ false) × (end ≡ start))
    ⊎ ((last : ℕ) × (last < length row.1) × IsTrue (piece_in pieces row last).init
    × ((j : ℕ) → last < j → j < length row.1 → (piece_in pieces row j).init ≡ false)
    × (end ≡ piece_end pieces row place last))

-- some piece has bytes
abbrev pub HasBytes : List Piece → List ℕ × List ℕ → Type 0
HasBytes pieces row = (j : ℕ) × (j < length row.1) × (0 < (piece_in pieces row j).size)

-- no piece has
abbrev pub HasNoBytes : List Piece → List ℕ × List ℕ → Type 0
HasNoBytes pieces row = (j : ℕ) → j < length row.1 → (piece_in pieces row j).size ≡ 0

-- a section stands at the least page at or above the end before it, and each piece at its least place; the section runs to
-- the end of its last piece, or is one byte long where no piece has bytes
pub record IsPlacedSection (pieces : List Piece) (row : List ℕ × List ℕ) (before file_before : ℕ) (placed : Placed) (place : ℕ → ℕ) : Type 0 where
  pub start : IsLeastMultiple PAGE_SIZE before placed.rva
  pub each : (j : ℕ) → j < length row.1 → IsLeastMultiple (alignment_in pieces row j) (piece_floor pieces row placed.rva place j) (place j)
  pub size_of_bytes : HasBytes pieces row → placed.rva + placed.size ≡ piece_floor pieces row placed.rva place (length row.1)
  pub size_of_none : HasNoBytes pieces row → placed.size ≡ 1
  pub initialised_end : ℕ
  pub is_initialised_end : IsInitialisedEnd pieces row placed.rva place initialised_end
  pub raw : IsLeastMultiple FILE_ALIGNMENT (initialised_end - placed.rva) placed.raw
  pub file : placed.file ≡ (if placed.raw == 0 then 0 else file_before)

-- ---- all sections

-- the end of the sections before one, from the headers on
abbrev pub end_before : ℕ → (ℕ → Placed) → ℕ → ℕ
end_before headers placed zero = headers
end_before headers placed (suc i) = (placed i).rva + (placed i).size

-- the end of the raw data of the sections before one, from the headers on
abbrev pub file_before : ℕ → (ℕ → Placed) → ℕ → ℕ
file_before headers placed zero = headers
file_before headers placed (suc i) = file_before headers placed i + (placed i).raw

-- how many sections the headers have room for
abbrev pub section_count : List OutSection → Bool → ℕ
section_count sections reloc = length sections + (if reloc then 1 else 0)

-- the sections stand at least places; place i j is that of piece j of section i
pub record IsArrangement (pieces : List Piece) (sections : List OutSection) (reloc : Bool) (headers : ℕ) (placed : ℕ → Placed) (place : ℕ → ℕ → ℕ) (image : ℕ) : Type 0 where
  pub of_headers : IsLeastMultiple FILE_ALIGNMENT (SECTION_HEADERS_OFFSET + SIZEOF_SECTION_HEADER * section_count sections reloc) headers
  pub each : (i : ℕ) → i < length sections → IsPlacedSection pieces (row_at sections i) (end_before headers placed i) (file_before headers placed i) (placed i) (place i)
  pub of_image : IsLeastMultiple PAGE_SIZE (end_before headers placed (length sections)) image
