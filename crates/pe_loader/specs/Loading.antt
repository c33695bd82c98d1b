-- What loading answers of a file and a base, and what a loaded image shows. Own.
use Rattle.std.specs.Prelude.{◌≡◌, ◌<◌, ℕ, ◌-◌, false, ◌==◌, if◌then◌else◌, List, slice_get, slice_index_or, Option, Some, None}
use Rattle.link_base.specs.PeFormat.{NUMBEROF_DIRECTORY_ENTRIES}
use Rattle.address_layout.specs.PermittedBase.{is_permitted}
use Rattle.pe_loader.specs.declared.error.ShowError.{ShowError}
use Rattle.pe_loader.specs.declared.error.ShowError.TheVariants as error
use Rattle.pe_loader.specs.declared.loaded.Loaded.{Loaded}
use Rattle.pe_loader.specs.LoadedImage.{size_of_image, image_fault, base_rule, loaded}
use Rattle.pe_loader.specs.Extents.{directory_extent, numbered_section}

-- ---- what a loaded image shows

-- its bytes from RVA 0 on
abbrev pub memory_of : Loaded → List ℕ
memory_of made = made.memory.items

-- a data directory: its RVA and its size
abbrev pub directory_of : Loaded → ℕ → ℕ × ℕ
directory_of made k = slice_index_or made.directories k (0, 0)

-- a section, by its number from 1 on: its RVA and its size
abbrev pub section_of : Loaded → ℕ → Option (ℕ × ℕ)
section_of made number = if number == 0 then None else slice_get made.sections.items (number - 1)

-- ---- the answers

-- the memory at the base, with the directories and the sections of the file's headers
pub record IsLoaded (image : List ℕ) (base : ℕ) (made : Loaded) : Type 0 where
  pub memory : loaded image base ≡ Some (memory_of made)
  pub directories : (k : ℕ) → k < NUMBEROF_DIRECTORY_ENTRIES → directory_of made k ≡ directory_extent image k
  pub sections : (number : ℕ) → section_of made number ≡ numbered_section image number

-- which error a file has, or a base that the file does not permit; of want of memory nothing is said
abbrev pub RefusesLoad : List ℕ → ℕ → ShowError → Type 0
RefusesLoad image base (error.BadImage kind) = image_fault image ≡ Some kind
RefusesLoad image base error.BasePermit = (image_fault image ≡ None) × (is_permitted (base_rule image) (size_of_image image) base ≡ false)
RefusesLoad image base error.Memory = Unit {0}
