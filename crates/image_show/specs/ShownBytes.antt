-- What an image shows: its bytes from a place on, as they stand in memory at a base. The refusals come in the order of what
-- is wrong with the image, of the base, of the place, and of the range. Own.
use Rattle.std.specs.Prelude.{◌≡◌, ℕ, ◌+◌, if◌then◌else◌, List, [], ◌∷◌, ◌++◌, Option, Some, None, Result, Ok, Err}
use Rattle.hex.specs.Hex.{encode_lower}
use Rattle.link_base.specs.Bytes.{has_bytes, bytes_at}
use Rattle.link_base.specs.declared.fault.Fault.{Fault}
use Rattle.link_base.specs.declared.fault.Fault.TheVariants as faults
use Rattle.link_base.specs.declared.kinds.image.ImageKind.{ImageKind}
use Rattle.link_base.specs.declared.stop.Refusal.{Refusal}
use Rattle.link_base.specs.declared.stop.Refusal.TheVariants as refusal
use Rattle.diagnostics.specs.LineText.{address_text}
use Rattle.pe_loader.specs.Extents.{numbered_section}
use Rattle.pe_loader.specs.LoadedImage.{image_fault, loaded}
use Rattle.image_show.specs.SymbolPlace.{symbol_place}

-- ---- the line

-- the address, and the bytes in lower-case hexadecimal digits
abbrev pub shown_line : ℕ → List ℕ → List ℕ
shown_line address bytes = address_text address ++ (32 ∷ (encode_lower bytes ++ (10 ∷ [])))

-- of a memory, where it has all of the bytes
abbrev pub memory_shown : ℕ → ℕ → ℕ → List ℕ → Result (List ℕ) Fault
memory_shown base rva len memory =
    if has_bytes memory rva len then Ok (shown_line (base + rva) (bytes_at memory rva len)) else Err (faults.LengthRange (rva + len))

-- ---- the image

-- its memory, by what is wrong with it and what is loaded at the base
abbrev pub memory_there : ℕ → Option ImageKind → Option (List ℕ) → Result (List ℕ) Fault
memory_there base (Some kind) memory = Err (faults.BadImage kind)
memory_there base None None = Err (faults.BasePermit base)
memory_there base None (Some memory) = Ok memory

abbrev pub image_memory : List ℕ → ℕ → Result (List ℕ) Fault
image_memory image base = memory_there base (image_fault image) (loaded image base)

-- ---- what is shown

-- of a memory from a place on
abbrev pub place_shown : ℕ → ℕ → Result (List ℕ) Fault → Result ℕ Fault → Result (List ℕ) Fault
place_shown base len (Err fault) place = Err fault
place_shown base len (Ok memory) (Err fault) = Err fault
place_shown base len (Ok memory) (Ok rva) = memory_shown base rva len memory

-- from an RVA on
abbrev pub shown_at : List ℕ → ℕ → ℕ → ℕ → Result (List ℕ) Fault
shown_at image base rva len = place_shown base len (image_memory image base) (Ok rva)

-- from where a public symbol stands
abbrev pub shown_symbol : List ℕ → List ℕ → ℕ → List ℕ → ℕ → Result (List ℕ) Fault
shown_symbol image pdb base name len =
    place_shown base len (image_memory image base) (symbol_place (numbered_section image) pdb name)

-- ---- the answers

-- the fault of a refusal is the expected one; of want of memory nothing is said
abbrev pub RefusesAs : {A : Type 0} → Result A Fault → Refusal → Type 0
RefusesAs expected (refusal.Fault fault) = expected ≡ Err fault
RefusesAs expected refusal.Memory = Unit {0}
