-- What a layout says of the sections and the pieces that it was made for.
use Rattle.std.specs.Prelude.{◌≡◌, ℕ, ◌%◌, ◌<◌, ◌≤◌, Bool, ◌==◌, List, length, slice_index, slice_index_or}
use Rattle.std.specs.List.{All, Contains, IsDistinct, flat_map}
use Rattle.link_base.specs.Limits.{SECTION_LIMIT, IMAGE_LIMIT}
use Rattle.section_group.specs.declared.piece.Piece.{Piece}
use Rattle.section_group.specs.declared.piece.OutSection.{OutSection}
use Rattle.address_layout.specs.declared.layout.Placed.{Placed}
use Rattle.address_layout.specs.declared.layout.Layout.{Layout}
use Rattle.address_layout.specs.declared.layout.LayoutError.{LayoutError}
use Rattle.address_layout.specs.declared.layout.LayoutError.TheVariants.{TooManySections, ImageTooLarge, BaseRange, Memory}
use Rattle.address_layout.specs.Places.{IsArrangement, section_count, row_at}

-- the pieces of all sections, one section after the other
abbrev pub all_pieces : List OutSection → List ℕ
all_pieces sections = flat_map (λ section. section.pieces.items) sections

-- each section has pieces, and no piece stands twice
pub record StandOnce (pieces : List Piece) (sections : List OutSection) : Type 0 where
  pub some : All (λ section. 0 < length section.pieces.items) sections
  pub within : All (λ k. k < length pieces) (all_pieces sections)
  pub once : IsDistinct (λ j k. j == k) (all_pieces sections)

-- a power of two up to 8,192 (PE Format, "Section Flags", IMAGE_SCN_ALIGN)
pub record IsAlignment (align : ℕ) : Type 0 where
  pub positive : 0 < align
  pub divides : 8192 % align ≡ 0

abbrev pub placed_at : List Placed → ℕ → Placed
placed_at placed i = slice_index_or placed i (record { rva = 0; size = 0; raw = 0; file = 0 })

-- a layout holds an arrangement: what it says of the pieces that stand in a section
pub record HoldsArrangement (pieces : List Piece) (sections : List OutSection) (reloc : Bool) (layout : Layout) : Type 0 where
  pub place : ℕ → ℕ → ℕ
  pub arranged : IsArrangement pieces sections reloc layout.headers (placed_at layout.sections.items) place layout.image
  pub section_for_each : length layout.sections.items ≡ length sections
  pub rva_for_each : length layout.pieces.items ≡ length pieces
  pub written : (i j : ℕ) → i < length sections → j < length (row_at sections i).1 → slice_index layout.pieces.items (slice_index (row_at sections i).1 j) ≡ place i j

-- and the entry of a piece that stands in none is 0
pub record IsLayout (pieces : List Piece) (sections : List OutSection) (reloc : Bool) (layout : Layout) : Type 0 where
  pub standing : HoldsArrangement pieces sections reloc layout
  pub unplaced : (k : ℕ) → ¬ Contains (all_pieces sections) k → slice_index layout.pieces.items k ≡ 0

-- a layout in which nothing but entries of pieces that stand in no section was written since
pub record IsRewritten (sections : List OutSection) (old new : Layout) : Type 0 where
  pub headers : new.headers ≡ old.headers
  pub section_places : new.sections.items ≡ old.sections.items
  pub image : new.image ≡ old.image
  pub rva_for_each : length new.pieces.items ≡ length old.pieces.items
  pub placed : (k : ℕ) → Contains (all_pieces sections) k → slice_index new.pieces.items k ≡ slice_index old.pieces.items k

-- the size of the image that the sections make
pub record HasImageSize (pieces : List Piece) (sections : List OutSection) (reloc : Bool) (image : ℕ) : Type 0 where
  pub headers : ℕ
  pub placed : ℕ → Placed
  pub place : ℕ → ℕ → ℕ
  pub arranged : IsArrangement pieces sections reloc headers placed place image

-- why there is no layout
abbrev pub IsPlaceRefusal : List Piece → List OutSection → Bool → LayoutError → Type 0
IsPlaceRefusal pieces sections reloc (TooManySections count) = (count ≡ section_count sections reloc) × (SECTION_LIMIT < count)
IsPlaceRefusal pieces sections reloc (ImageTooLarge size) =
    (section_count sections reloc ≤ SECTION_LIMIT) × HasImageSize pieces sections reloc size × (IMAGE_LIMIT < size)
IsPlaceRefusal pieces sections reloc (BaseRange base) = ⊥
IsPlaceRefusal pieces sections reloc Memory = Unit {0}
