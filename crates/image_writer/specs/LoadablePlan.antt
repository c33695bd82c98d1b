-- Plans whose file loads as they say (PE Format, "Section Table (Section Headers)" and "The .reloc Section (Image Only)"; the
-- rest is own).
use Rattle.std.specs.Prelude.{◌≡◌, ◌≤◌, ◌<◌, ℕ, ◌+◌, ◌%◌, ◌^◌, true, cond, ◌==◌, min, List, [], ◌∷◌, length, slice_get, Some}
use Rattle.std.specs.List.{All}
use Rattle.link_base.specs.Bytes.{bytes_at}
use Rattle.link_base.specs.PeFormat.{PAGE_SIZE, NUMBEROF_DIRECTORY_ENTRIES, DIRECTORY_ENTRY_BASERELOC}
use Rattle.link_base.specs.Limits.{IMAGE_LIMIT}
use Rattle.base_reloc.specs.declared.field.BaseField.{BaseField}
use Rattle.base_reloc.specs.Blocks.{raised_all}
use Rattle.base_reloc.specs.PageBlocks.{IsAscending, LieWithin, blocks_of}
use Rattle.pe_loader.specs.LoadedImage.{base_delta}
use Rattle.image_writer.specs.declared.headers.SectionHeader.{SectionHeader}
use Rattle.image_writer.specs.HeaderTable.{size_of_headers}
use Rattle.image_writer.specs.ExpectedImage.{PlacedPiece, PlacedBytes, ImagePlan, own_bytes, holds, expected_image, permits}

-- a section stands at or above the end of what is before it, page-aligned and inside the image, and its raw
-- bytes at the end of those before it
pub record IsRowPlaced (row : SectionHeader) (end_before file_end_before size : ℕ) : Type 0 where
  pub aligned : row.rva % PAGE_SIZE ≡ 0
  pub above : end_before ≤ row.rva
  pub inside : row.rva + row.size ≤ size
  pub raw_fits : row.raw_size < 2 ^ 32
  pub file_fits : row.file_offset < 2 ^ 32
  pub file_start : row.file_offset ≡ cond (row.raw_size == 0) 0 file_end_before

abbrev pub AreRowsPlaced : List SectionHeader → ℕ → ℕ → ℕ → Type 0
AreRowsPlaced [] end_before file_end_before size = Unit {0}
AreRowsPlaced (row ∷ rows) end_before file_end_before size =
    IsRowPlaced row end_before file_end_before size × AreRowsPlaced rows (row.rva + row.size) (file_end_before + row.raw_size) size

-- every byte of a piece lies in the raw bytes and in the size of some section
abbrev pub AreInRows : List PlacedBytes → List SectionHeader → Type 0
AreInRows pieces rows =
    (index rva : ℕ) (piece : PlacedBytes) → slice_get pieces index ≡ Some piece → holds piece rva ≡ true
    → (number : ℕ) × ((row : SectionHeader) × (slice_get rows number ≡ Some row) × (row.rva ≤ rva) × (rva < row.rva + min row.raw_size row.size))

-- a piece has as many bytes at each base
abbrev pub HasOneLength : PlacedPiece → Type 0
HasOneLength piece = (base other : ℕ) → length (piece.bytes base) ≡ length (piece.bytes other)

-- the table of base relocations lists some fields, and what the plan says at a permitted base is what it says at its own with
-- these fields raised; a plan without a table has no such fields, and its directory says (0, 0)
pub record IsRelocatable (plan : ImagePlan) : Type 0 where
  pub fields : List BaseField
  pub table : ℕ × ℕ
  pub directory : slice_get plan.headers.directories DIRECTORY_ENTRY_BASERELOC ≡ Some table
  pub inside : table.0 + table.1 ≤ plan.size
  pub lists : bytes_at (expected_image plan plan.headers.base) table.0 table.1 ≡ blocks_of fields
  pub ascending : IsAscending fields
  pub within : LieWithin plan.size fields
  pub raises : (base : ℕ) → permits plan base ≡ true → expected_image plan base ≡ raised_all (base_delta plan.headers.base base) (expected_image plan plan.headers.base) fields

-- the headers have all their directories, and each section stands after what is before it
pub record IsWritable (plan : ImagePlan) : Type 0 where
  pub directories : length plan.headers.directories ≡ NUMBEROF_DIRECTORY_ENTRIES
  pub rows : AreRowsPlaced plan.rows (size_of_headers (length plan.rows)) (size_of_headers (length plan.rows)) plan.size

pub record IsLoadable (plan : ImagePlan) : Type 0 where
  pub writable : IsWritable plan
  pub few : length plan.rows < 2 ^ 16
  pub some_size : 0 < plan.size
  pub size_fits : plan.size ≤ IMAGE_LIMIT
  pub headers_inside : size_of_headers (length plan.rows) ≤ plan.size
  pub permitted : permits plan plan.headers.base ≡ true
  pub lengths : All HasOneLength plan.pieces
  pub pieces : AreInRows (own_bytes plan) plan.rows
  pub relocatable : IsRelocatable plan
