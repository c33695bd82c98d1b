-- The places as they are computed: each number rounded up.
use Rattle.std.specs.Prelude.{◌≡◌, ◌≢◌, ◌≤◌, slice_index, ℕ, zero, suc, ◌+◌, ◌-◌, ◌*◌, ◌/◌, ◌<◌, Bool, false, ◌||◌, ◌==◌, nat_lt, min, List, map, take, length, if◌then◌else◌}
use Rattle.std.specs.List.{Contains, range_with_len}
use Rattle.link_base.specs.PeFormat.{PAGE_SIZE, FILE_ALIGNMENT}
use Rattle.section_group.specs.declared.piece.Piece.{Piece}
use Rattle.section_group.specs.declared.piece.OutSection.{OutSection}
use Rattle.address_layout.specs.declared.layout.Placed.{Placed}
use Rattle.address_layout.specs.declared.extent.Extent.{Extent}
use Rattle.address_layout.specs.Places.{piece_in, alignment_in, row_at}
use Rattle.address_layout.specs.Layout.{all_pieces}

unfoldable pub rounded : ℕ → ℕ → ℕ
rounded step low = (low + (step - 1)) / step * step

-- a number as 32 bits hold it, or the greatest that they hold
abbrev pub saturated : ℕ → ℕ
saturated n = min n 4294967295

-- ---- the pieces of a section

-- the end of the first pieces
unfoldable pub end_after : List Piece → List ℕ × List ℕ → ℕ → ℕ → ℕ
end_after pieces row start zero = start
end_after pieces row start (suc j) = rounded (alignment_in pieces row j) (end_after pieces row start j) + (piece_in pieces row j).size

abbrev pub place_of : List Piece → List ℕ × List ℕ → ℕ → ℕ → ℕ
place_of pieces row start j = rounded (alignment_in pieces row j) (end_after pieces row start j)

-- the end of the last initialised one of the first pieces
unfoldable pub raw_end_after : List Piece → List ℕ × List ℕ → ℕ → ℕ → ℕ
raw_end_after pieces row start zero = start
raw_end_after pieces row start (suc j) = if (piece_in pieces row j).init then end_after pieces row start (suc j) else raw_end_after pieces row start j

-- one of the first pieces has bytes
unfoldable pub bytes_before : List Piece → List ℕ × List ℕ → ℕ → Bool
bytes_before pieces row zero = false
bytes_before pieces row (suc j) = bytes_before pieces row j || nat_lt 0 (piece_in pieces row j).size

-- ---- the sections

-- a section that begins at a place, and what is after it
abbrev pub size_from : List Piece → List ℕ × List ℕ → ℕ → ℕ
size_from pieces row start = if bytes_before pieces row (length row.1) then end_after pieces row start (length row.1) - start else 1

abbrev pub raw_from : List Piece → List ℕ × List ℕ → ℕ → ℕ
raw_from pieces row start = rounded FILE_ALIGNMENT (raw_end_after pieces row start (length row.1) - start)

-- the end of the first sections
unfoldable pub floor_of : List Piece → List OutSection → ℕ → ℕ → ℕ
floor_of pieces sections headers zero = headers
floor_of pieces sections headers (suc i) =
    rounded PAGE_SIZE (floor_of pieces sections headers i) + size_from pieces (row_at sections i) (rounded PAGE_SIZE (floor_of pieces sections headers i))

abbrev pub start_of : List Piece → List OutSection → ℕ → ℕ → ℕ
start_of pieces sections headers i = rounded PAGE_SIZE (floor_of pieces sections headers i)

-- the end of the raw data of the first sections
unfoldable pub file_of : List Piece → List OutSection → ℕ → ℕ → ℕ
file_of pieces sections headers zero = headers
file_of pieces sections headers (suc i) =
    file_of pieces sections headers i + raw_from pieces (row_at sections i) (start_of pieces sections headers i)

-- a section as it is placed
abbrev pub placed_from : List Piece → List ℕ × List ℕ → ℕ → ℕ → Placed
placed_from pieces row start file = record {
  rva = start;
  size = size_from pieces row start;
  raw = raw_from pieces row start;
  file = if raw_from pieces row start == 0 then 0 else file;
}

abbrev pub saturated_placed : Placed → Placed
saturated_placed placed = record { rva = saturated placed.rva; size = saturated placed.size; raw = saturated placed.raw; file = saturated placed.file }

abbrev pub placed_of : List Piece → List OutSection → ℕ → ℕ → Placed
placed_of pieces sections headers i = placed_from pieces (row_at sections i) (start_of pieces sections headers i) (file_of pieces sections headers i)

-- the first pieces of a section are placed
pub record ArePlaced (pieces : List Piece) (row : List ℕ × List ℕ) (start count : ℕ) (extent : Extent) (first rvas : List ℕ) : Type 0 where
  pub end : extent.end ≡ end_after pieces row start count
  pub initialised_end : extent.initialised_end ≡ raw_end_after pieces row start count
  pub has_bytes : extent.has_bytes ≡ bytes_before pieces row count
  pub bound : extent.end ≤ start + count * 4294975488
  pub low : start ≤ extent.initialised_end
  pub high : extent.initialised_end ≤ extent.end
  pub room : length rvas ≡ length first
  pub written : (j : ℕ) → j < count → slice_index rvas (slice_index row.1 j) ≡ saturated (place_of pieces row start j)
  pub others : (k : ℕ) → ((j : ℕ) → j < count → slice_index row.1 j ≢ k) → slice_index rvas k ≡ slice_index first k

-- the first sections are placed, with no more than so many pieces
pub record AreSections (pieces : List Piece) (sections : List OutSection) (headers count end file : ℕ) (placed : List Placed) (rvas : List ℕ) : Type 0 where
  pub is_end : end ≡ floor_of pieces sections headers count
  pub is_file : file ≡ file_of pieces sections headers count
  pub end_bound : end ≤ 8192 + count * 4096 + length (all_pieces (take count sections)) * 4294975488
  pub file_bound : file ≤ 8192 + count * 4096 + length (all_pieces (take count sections)) * 4294975488
  pub is_placed : placed ≡ map (λ i. saturated_placed (placed_of pieces sections headers i)) (range_with_len 0 count)
  pub room : length rvas ≡ length pieces
  pub written : (i j : ℕ) → i < count → j < length (row_at sections i).1 → slice_index rvas (slice_index (row_at sections i).1 j) ≡ saturated (place_of pieces (row_at sections i) (start_of pieces sections headers i) j)
  pub unplaced : (k : ℕ) → ¬ Contains (all_pieces (take count sections)) k → slice_index rvas k ≡ 0

-- all sections are placed
abbrev pub ArePlacedAll : List Piece → List OutSection → ℕ → ℕ → List Placed → List ℕ → Type 0
ArePlacedAll pieces sections headers end placed rvas =
    (file : ℕ) × AreSections pieces sections headers (length sections) end file placed rvas
