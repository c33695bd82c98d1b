-- The raw data of a section, as it is written: piece by piece, from a place on (PE Format, "Section Data"; the steps are own).
use Rattle.std.specs.Prelude.{◌≤◌, ◌<◌, ℕ, ◌+◌, ◌-◌, List, [], ◌∷◌, ◌++◌, length, map, replicate, slice_index, slice_index_or}
use Rattle.std.specs.List.{flat_map}
use Rattle.section_group.specs.Uniqueness.{SectionRow as OutRow}
use Rattle.address_layout.specs.declared.layout.Placed.{Placed}
use Rattle.image_writer.specs.ExpectedImage.{PlacedBytes}

-- what a piece by its index holds at a base, and what some pieces do
abbrev pub piece_bytes : List ℕ → List (List ℕ) → ℕ → PlacedBytes
piece_bytes rvas contents k = record { rva = slice_index rvas k; bytes = slice_index_or contents k [] }

abbrev pub section_bytes : List ℕ → List (List ℕ) → List ℕ → List PlacedBytes
section_bytes rvas contents indexes = map (piece_bytes rvas contents) indexes

-- what the pieces of all sections hold, one section after the other
abbrev pub all_bytes : List ℕ → List (List ℕ) → List OutRow → List PlacedBytes
all_bytes rvas contents rows = flat_map (λ row. section_bytes rvas contents row.pieces) rows

-- how many zeros stand before bytes that begin at an RVA, from a place on; none before no bytes
abbrev pub gap : List ℕ → ℕ → ℕ → ℕ
gap [] rva place = 0
gap (byte ∷ bytes) rva place = rva - place

-- the place after the bytes
abbrev pub next_place : List ℕ → ℕ → ℕ → ℕ
next_place [] rva place = place
next_place (byte ∷ bytes) rva place = rva + length (byte ∷ bytes)

-- the bytes from a place up to an end
unfoldable pub laid : List PlacedBytes → ℕ → ℕ → List ℕ
laid [] end place = replicate (end - place) 0
laid (piece ∷ pieces) end place =
    (replicate (gap piece.bytes piece.rva place) 0 ++ piece.bytes) ++ laid pieces end (next_place piece.bytes piece.rva place)

-- the pieces with bytes ascend from a place, and end before an end
unfoldable pub Ascend : List PlacedBytes → ℕ → ℕ → Type 0
Ascend [] end place = place ≤ end
Ascend (piece ∷ pieces) end place =
    (0 < length piece.bytes → place ≤ piece.rva) × Ascend pieces end (next_place piece.bytes piece.rva place)

-- the raw data of all sections, one after the other
unfoldable pub laid_all : List ℕ → List (List ℕ) → List OutRow → List Placed → List ℕ
laid_all rvas contents [] placed = []
laid_all rvas contents (row ∷ rows) [] = []
laid_all rvas contents (row ∷ rows) (place ∷ placed) =
    laid (section_bytes rvas contents row.pieces) (place.rva + place.raw) place.rva ++ laid_all rvas contents rows placed
