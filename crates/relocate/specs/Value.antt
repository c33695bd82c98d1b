-- What the fields of relocations hold (PE Format, "Type Indicators", x64 Processors; the ranges, and that the contents of
-- SECTION are no sign and number, are own).
use Rattle.std.specs.Prelude.{◌≡◌, ℕ, ◌+◌, ◌-◌, ◌*◌, ◌^◌, ◌<◌, ◌≤◌, ◌⊎◌, ℤ, pos, negsuc, ◌+ℤ◌, ◌-ℤ◌, int_le, int_lt, ◌≤ℤ◌, unsigned_abs, Bool, true, false, ◌&&◌, ◌==◌, if◌then◌else◌, List, length, slice_index, Option, Some, None, Result, Ok, Err}
use Rattle.std.specs.Int.{w32, w64, cast_signed, int_rem_euclid}
use Rattle.std.specs.List.{All}
use Rattle.link_base.specs.Bytes.{number_at}
use Rattle.link_base.specs.PeFormat.{REL_AMD64_ADDR64, REL_AMD64_ADDR32, REL_AMD64_ADDR32NB, REL_AMD64_REL32, REL_AMD64_SECTION, REL_AMD64_SECREL}
use Rattle.link_base.specs.declared.kinds.target.TargetFault.{TargetFault}
use Rattle.address_layout.specs.declared.layout.Layout.{Layout}
use Rattle.address_layout.specs.Layout.{placed_at}
use Rattle.relocate.specs.declared.fix.Fix.{Fix}
use Rattle.relocate.specs.declared.fix.Target.{Target}
use Rattle.relocate.specs.declared.fix.Target.TheVariants.{Piece, Absolute, ImageBase}
use Rattle.relocate.specs.declared.value.Parts.{Parts}
use Rattle.relocate.specs.declared.range.RelocRange.{RelocRange}
use Rattle.relocate.specs.Field.{field_width, field_end, fix_at}

-- ---- addresses

-- the address of a target in an image at a base; at the base 0 it is the RVA
abbrev pub address_of : ℕ → Layout → Target → ℕ
address_of base layout (Piece piece value) = base + slice_index layout.pieces.items piece + value
address_of base layout (Absolute value) = value
address_of base layout ImageBase = base

-- the number of a target's section, from 1 on, and the RVA that this begins at; of a target in no section 0
abbrev pub section_number : List ℕ → Target → ℕ
section_number owner (Piece piece value) = slice_index owner piece + 1
section_number owner (Absolute value) = 0
section_number owner ImageBase = 0

abbrev pub section_start : Layout → List ℕ → Target → ℕ
section_start layout owner (Piece piece value) = (placed_at layout.sections.items (slice_index owner piece)).rva
section_start layout owner (Absolute value) = 0
section_start layout owner ImageBase = 0

-- ---- the table

-- the old contents of a field: signed, and for SECTION unsigned
unfoldable pub old_number : ℕ → ℕ → ℤ
old_number kind number =
    if kind == REL_AMD64_SECTION then pos number
    else (if kind == REL_AMD64_ADDR64 then cast_signed w64 number
    else cast_signed w32 number)

-- the value by the type; the last are REL32 to REL32_5, which are relative to a place 0 to 5 bytes behind the field
unfoldable pub field_value : ℕ → Parts → ℤ
field_value kind parts =
    if kind == REL_AMD64_ADDR64 then parts.address +ℤ parts.old
    else (if kind == REL_AMD64_ADDR32 then parts.address +ℤ parts.old
    else (if kind == REL_AMD64_ADDR32NB then parts.rva +ℤ parts.old
    else (if kind == REL_AMD64_SECTION then parts.number +ℤ parts.old
    else (if kind == REL_AMD64_SECREL then (parts.rva -ℤ parts.start) +ℤ parts.old
    else (parts.address +ℤ parts.old) -ℤ (parts.place +ℤ pos (4 + (kind - REL_AMD64_REL32)))))))

abbrev pub lies_in : ℤ → ℤ → ℤ → Bool
lies_in low end value = int_le low value && int_lt value end

-- the numbers are far from the ends of 128 bits
abbrev pub IsSmall : ℤ → Type 0
IsSmall z = (negsuc 0x40_0000_0000_0000_0000 ≤ℤ z) × (z ≤ℤ pos 0x40_0000_0000_0000_0000)

pub record AreSmall (parts : Parts) : Type 0 where
  pub address : IsSmall parts.address
  pub rva : IsSmall parts.rva
  pub number : IsSmall parts.number
  pub start : IsSmall parts.start
  pub old : IsSmall parts.old
  pub place : IsSmall parts.place

-- the range of the value; of ADDR32 that of the base 0 is judged, and ADDR64 has every value, modulo its width
unfoldable pub value_fits : ℕ → Parts → Bool
value_fits kind parts =
    if kind == REL_AMD64_ADDR64 then true
    else (if kind == REL_AMD64_ADDR32 then lies_in (pos 0) (pos 0x8000_0000) (parts.rva +ℤ parts.old)
    else (if kind == REL_AMD64_ADDR32NB then lies_in (pos 0) (pos 0x1_0000_0000) (field_value kind parts)
    else (if kind == REL_AMD64_SECTION then lies_in (pos 0) (pos 0x1_0000) (field_value kind parts)
    else (if kind == REL_AMD64_SECREL then lies_in (pos 0) (pos 0x1_0000_0000) (field_value kind parts)
    else lies_in (negsuc 0x7FFF_FFFF) (pos 0x8000_0000) (field_value kind parts)))))

-- the number that a field of a width holds for a value
unfoldable pub held : ℕ → ℤ → ℕ
held width value = unsigned_abs (int_rem_euclid value (pos (2 ^ (8 * width))))

-- ---- a field of a section that stands at an RVA

abbrev pub meant : Option (Result Target TargetFault) → Target
meant None = Absolute 0
meant (Some (Err fault)) = Absolute 0
meant (Some (Ok target)) = target

abbrev pub target_of : Fix → Target
target_of fix = meant fix.target

-- what it is computed from, at a base
unfoldable pub parts_of : ℕ → ℕ → Layout → List ℕ → List ℕ → Fix → Parts
parts_of base rva layout owner bytes fix =
    record {
      address = pos (address_of base layout (target_of fix));
      rva = pos (address_of 0 layout (target_of fix));
      number = pos (section_number owner (target_of fix));
      start = pos (section_start layout owner (target_of fix));
      old = old_number fix.kind (number_at (field_width fix.kind) bytes fix.at);
      place = pos (base + rva + fix.at);
    }

abbrev pub value_of : ℕ → ℕ → Layout → List ℕ → List ℕ → Fix → ℤ
value_of base rva layout owner bytes fix = field_value fix.kind (parts_of base rva layout owner bytes fix)

abbrev pub fits : ℕ → ℕ → Layout → List ℕ → List ℕ → Fix → Bool
fits base rva layout owner bytes fix = value_fits fix.kind (parts_of base rva layout owner bytes fix)

-- ---- all fields

-- a piece has an RVA, and an output section that is there
abbrev pub HasEntry : Layout → List ℕ → Target → Type 0
HasEntry layout owner (Piece piece value) = (piece < length layout.pieces.items) × (piece < length owner) × (slice_index owner piece < length layout.sections.items)
HasEntry layout owner (Absolute value) = Unit {0}
HasEntry layout owner ImageBase = Unit {0}

abbrev pub HaveEntries : Layout → List ℕ → List Fix → Type 0
HaveEntries layout owner fixups = All (λ fix. HasEntry layout owner (target_of fix)) fixups

-- a byte is none of a field's
abbrev pub IsOutside : ℕ → Fix → Type 0
IsOutside byte fix = (byte < fix.at) ⊎ (field_end fix ≤ byte)

-- each field holds its value, computed from the old bytes, and no other byte is changed
pub record ArePatched (base rva : ℕ) (layout : Layout) (owner : List ℕ) (fixups : List Fix) (old new : List ℕ) : Type 0 where
  pub len : length new ≡ length old
  pub hold : All (λ fix. number_at (field_width fix.kind) new fix.at ≡ held (field_width fix.kind) (value_of base rva layout owner old fix)) fixups
  pub others : (byte : ℕ) → All (IsOutside byte) fixups → slice_index new byte ≡ slice_index old byte

-- of the fields whose values are out of range, that of the least relocation index
pub record IsLeastOutside (base rva : ℕ) (layout : Layout) (owner : List ℕ) (fixups : List Fix) (old : List ℕ) (range : RelocRange) : Type 0 where
  pub place : ℕ
  pub there : place < length fixups
  pub index : range.index ≡ (fix_at fixups place).index
  pub value : range.value ≡ value_of base rva layout owner old (fix_at fixups place)
  pub outside : fits base rva layout owner old (fix_at fixups place) ≡ false
  pub least : (k : ℕ) → k < length fixups → fits base rva layout owner old (fix_at fixups k) ≡ false → range.index ≤ (fix_at fixups k).index
