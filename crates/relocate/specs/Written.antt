-- The number of a field, one field patched, and the least of the relocations whose values are out of range so far: what the steps of the code
-- promise one another.
use Rattle.std.specs.Prelude.{◌≡◌, ◌<◌, ◌≤◌, ◌⊎◌, ℕ, ℤ, pos, negsuc, ◌≤ℤ◌, nat_lt, if◌then◌else◌, List, ◌++◌, take, drop, Option, Some, None, Result, Ok, Err}
use Rattle.link_base.specs.Bytes.{number_bytes}
use Rattle.address_layout.specs.declared.layout.Layout.{Layout}
use Rattle.link_base.specs.PeFormat.{REL_AMD64_REL32, REL_AMD64_REL32_5}
use Rattle.link_base.specs.declared.kinds.target.TargetFault.{TargetFault}
use Rattle.relocate.specs.declared.fix.Fix.{Fix}
use Rattle.relocate.specs.declared.fix.Target.{Target}
use Rattle.relocate.specs.Judged.{IsPatchable}
use Rattle.relocate.specs.declared.range.RelocRange.{RelocRange}
use Rattle.relocate.specs.Field.{field_width, field_end}
use Rattle.relocate.specs.Value.{HasEntry, target_of, held, value_of, fits, lies_in}

-- a number is far from the ends of 64 bits
abbrev pub IsNear : ℤ → Type 0
IsNear z = (negsuc 0x10_0000_0000 ≤ℤ z) × (z ≤ℤ pos 0x10_0000_0000)

-- the number of a value of a width, where it is in a range
abbrev pub number_in : ℕ → ℤ → ℤ → ℤ → Option ℕ
number_in width low end value = if lies_in low end value then Some (held width value) else None

-- the number of a field, where its value is in range
unfoldable pub number_of : ℕ → ℕ → Layout → List ℕ → Fix → List ℕ → Option ℕ
number_of base rva layout owner fix bytes =
    if fits base rva layout owner bytes fix then Some (held (field_width fix.kind) (value_of base rva layout owner bytes fix)) else None

-- what is known of a field before it is patched: it can be, and the piece of its target has an RVA
pub record IsReady (layout : Layout) (owner : List ℕ) (fix : Fix) (target : Target) (len : ℕ) : Type 0 where
  pub patchable : IsPatchable len fix
  pub means : target ≡ target_of fix
  pub entry : HasEntry layout owner target

-- a symbol is there, and has an address
abbrev pub IsMeant : Option (Result Target TargetFault) → Type 0
IsMeant None = ⊥
IsMeant (Some (Err fault)) = ⊥
IsMeant (Some (Ok target)) = Unit {0}

-- a type whose value counts from the place of the field
abbrev pub CountsFromPlace : ℕ → Type 0
CountsFromPlace kind = (REL_AMD64_REL32 ≤ kind) × (kind ≤ REL_AMD64_REL32_5)

abbrev pub CountsElsewhere : ℕ → Type 0
CountsElsewhere kind = (kind < REL_AMD64_REL32) ⊎ (REL_AMD64_REL32_5 < kind)

-- the bytes with a number in a field
abbrev pub written_over : List ℕ → Fix → ℕ → List ℕ
written_over bytes fix number = take fix.at bytes ++ (number_bytes (field_width fix.kind) number ++ drop (field_end fix) bytes)

-- the same of a number that may be none
abbrev pub patched_by : List ℕ → Fix → Option ℕ → List ℕ
patched_by bytes fix None = bytes
patched_by bytes fix (Some number) = written_over bytes fix number

-- a field that holds its value, where this is in range
unfoldable pub one_patched : ℕ → ℕ → Layout → List ℕ → Fix → List ℕ → List ℕ
one_patched base rva layout owner fix bytes =
    if fits base rva layout owner bytes fix then written_over bytes fix (held (field_width fix.kind) (value_of base rva layout owner bytes fix)) else bytes

-- the value where it is not
unfoldable pub value_outside : ℕ → ℕ → Layout → List ℕ → Fix → List ℕ → Option ℤ
value_outside base rva layout owner fix bytes =
    if fits base rva layout owner bytes fix then None else Some (value_of base rva layout owner bytes fix)

-- the range of the least index, with one more relocation
unfoldable pub least_range : Option RelocRange → ℕ → Option ℤ → Option RelocRange
least_range least index None = least
least_range None index (Some value) = Some (record { index = index; value = value })
least_range (Some range) index (Some value) = if nat_lt index range.index then Some (record { index = index; value = value }) else Some range
