-- A layout with the section of base relocations after the others (PE Format, "The .reloc Section (Image Only)").
use Rattle.std.specs.Prelude.{◌≡◌, ℕ, ◌+◌, ◌^◌, ◌<◌, ◌≤◌, ◌==◌, [], ◌∷◌, ◌++◌, length, if◌then◌else◌}
use Rattle.link_base.specs.PeFormat.{PAGE_SIZE, FILE_ALIGNMENT}
use Rattle.link_base.specs.Limits.{IMAGE_LIMIT}
use Rattle.address_layout.specs.declared.layout.Placed.{Placed}
use Rattle.address_layout.specs.declared.layout.Layout.{Layout}
use Rattle.address_layout.specs.declared.layout.LayoutError.{LayoutError}
use Rattle.address_layout.specs.declared.layout.LayoutError.TheVariants.{TooManySections, ImageTooLarge, BaseRange, Memory}
use Rattle.address_layout.specs.Places.{IsLeastMultiple, end_before, file_before}
use Rattle.address_layout.specs.Layout.{placed_at}

-- the end of all sections, and of their raw data
abbrev pub last_end : Layout → ℕ
last_end layout = end_before layout.headers (placed_at layout.sections.items) (length layout.sections.items)

abbrev pub raw_end : Layout → ℕ
raw_end layout = file_before layout.headers (placed_at layout.sections.items) (length layout.sections.items)

-- the sections lie in the image, and their raw data in a file of less than 4 GiB
pub record CanGrow (layout : Layout) : Type 0 where
  pub small : layout.image ≤ IMAGE_LIMIT
  pub within : last_end layout ≤ layout.image
  pub file : raw_end layout < 2 ^ 32

-- a section of that many bytes is at least one byte long
abbrev pub grown_size : ℕ → ℕ
grown_size len = if len == 0 then 1 else len

-- one more section of that many initialised bytes, at the least page after the others, with its RVA as the last piece's
pub record Appends (old new : Layout) (len : ℕ) : Type 0 where
  pub placed : Placed
  pub start : IsLeastMultiple PAGE_SIZE (last_end old) placed.rva
  pub size : placed.size ≡ grown_size len
  pub raw : IsLeastMultiple FILE_ALIGNMENT len placed.raw
  pub file : placed.file ≡ (if placed.raw == 0 then 0 else raw_end old)
  pub headers : new.headers ≡ old.headers
  pub sections : new.sections.items ≡ old.sections.items ++ placed ∷ []
  pub pieces : new.pieces.items ≡ old.pieces.items ++ placed.rva ∷ []
  pub image : IsLeastMultiple PAGE_SIZE (placed.rva + placed.size) new.image

-- the size of the image with one more section of that many bytes
pub record HasGrownSize (layout : Layout) (len size : ℕ) : Type 0 where
  pub rva : ℕ
  pub start : IsLeastMultiple PAGE_SIZE (last_end layout) rva
  pub image : IsLeastMultiple PAGE_SIZE (rva + grown_size len) size

pub record SameLayout (old new : Layout) : Type 0 where
  pub headers : new.headers ≡ old.headers
  pub sections : new.sections.items ≡ old.sections.items
  pub pieces : new.pieces.items ≡ old.pieces.items
  pub image : new.image ≡ old.image

-- why no section is added
abbrev pub IsGrowRefusal : Layout → ℕ → LayoutError → Type 0
IsGrowRefusal layout len (ImageTooLarge size) = HasGrownSize layout len size × (IMAGE_LIMIT < size)
IsGrowRefusal layout len (TooManySections count) = ⊥
IsGrowRefusal layout len (BaseRange base) = ⊥
IsGrowRefusal layout len Memory = Unit {0}
