-- Contents of pieces at two bases: fields that hold addresses, and all other bytes (PE Format, "The .reloc Section (Image
-- Only)").
use Rattle.std.specs.Prelude.{◌≡◌, ℕ, ◌+◌, ◌*◌, ◌%◌, ◌^◌, ◌<◌, ◌≤◌, true, List, [], length, slice_get, slice_index, slice_index_or, Some}
use Rattle.link_base.specs.Bytes.{number_at, number_bytes}
use Rattle.link_base.specs.PeFormat.{DIRECTORY_ENTRY_BASERELOC}
use Rattle.section_group.specs.declared.piece.OutSection.{OutSection}
use Rattle.address_layout.specs.declared.layout.Layout.{Layout}
use Rattle.address_layout.specs.Places.{row_at}
use Rattle.base_reloc.specs.declared.field.BaseField.{BaseField}
use Rattle.base_reloc.specs.Blocks.{width_of}
use Rattle.base_reloc.specs.PageBlocks.{IsAscending, blocks_of}
use Rattle.base_reloc.specs.Raising.{IsOutsideAll, ShareNoByte}
use Rattle.pe_loader.specs.LoadedImage.{base_delta}
use Rattle.image_writer.specs.declared.headers.Headers.{Headers}
use Rattle.image_writer.specs.ExpectedImage.{permits}
use Rattle.image_writer.specs.WrittenImage.{layout_plan}
use Rattle.image_writer.specs.PieceInFile.{piece_at}

-- contents by their indexes that have one length at each base
abbrev pub HaveOneLength : (ℕ → List (List ℕ)) → Type 0
HaveOneLength contents =
    (base other k : ℕ) → length (slice_index_or (contents base) k []) ≡ length (slice_index_or (contents other) k [])

-- a field lies in the bytes of a piece, by its section and its number there, and holds in the new ones the old number and
-- the delta
pub record IsMoved (sections : List OutSection) (layout : Layout) (old new : List (List ℕ)) (delta : ℕ) (field : BaseField) : Type 0 where
  pub section : ℕ
  pub number : ℕ
  pub at : ℕ
  pub there : section < length sections
  pub below : number < length (row_at sections section).1
  pub is : field.rva ≡ slice_index layout.pieces.items (piece_at sections section number) + at
  pub inside : at + width_of field ≤ length (slice_index_or old (piece_at sections section number) [])
  pub raised : (t : ℕ) → t < width_of field → slice_index (slice_index_or new (piece_at sections section number) []) (at + t)
      ≡ slice_index (number_bytes (width_of field) ((number_at (width_of field) (slice_index_or old (piece_at sections section number) []) at + delta) % 2 ^ (8 * width_of field))) t

-- each field is, and no other byte differs
pub record AreMoved (sections : List OutSection) (layout : Layout) (old new : List (List ℕ)) (delta : ℕ) (fields : List BaseField) : Type 0 where
  pub each : (n : ℕ) (d : BaseField) → n < length fields → IsMoved sections layout old new delta (slice_index_or fields n d)
  pub stays : (k t : ℕ) → IsOutsideAll (slice_index layout.pieces.items k + t) fields → t < length (slice_index_or old k [])
      → slice_index (slice_index_or new k []) t ≡ slice_index (slice_index_or old k []) t

-- contents that are the same at each permitted base, in an image without a table of base relocations
pub record Stay (headers : Headers) (sections : List OutSection) (layout : Layout) (contents : ℕ → List (List ℕ)) : Type 0 where
  pub directory : slice_get headers.directories DIRECTORY_ENTRY_BASERELOC ≡ Some (0, 0)
  pub same : (base : ℕ) → permits (layout_plan headers sections layout contents) base ≡ true → contents base ≡ contents headers.base

-- contents whose fields are moved at each permitted base, in an image with their table in a piece
pub record Move (headers : Headers) (sections : List OutSection) (layout : Layout) (contents : ℕ → List (List ℕ)) (fields : List BaseField) : Type 0 where
  pub ascending : IsAscending fields
  pub apart : ShareNoByte fields
  pub moved : (base : ℕ) → permits (layout_plan headers sections layout contents) base ≡ true → AreMoved sections layout (contents headers.base) (contents base) (base_delta headers.base base) fields
  pub section : ℕ
  pub number : ℕ
  pub there : section < length sections
  pub below : number < length (row_at sections section).1
  pub table : slice_index_or (contents headers.base) (piece_at sections section number) [] ≡ blocks_of fields
  pub directory : slice_get headers.directories DIRECTORY_ENTRY_BASERELOC ≡ Some (slice_index layout.pieces.items (piece_at sections section number), length (blocks_of fields))
  pub inside : slice_index layout.pieces.items (piece_at sections section number) + length (blocks_of fields) ≤ layout.image
