-- The bytes of a section in an image, and the first field whose value does not fit (PE Format, "Type Indicators", x64
-- Processors; the order is own).
use Rattle.std.specs.Prelude.{◌≡◌, ℕ, ◌-◌, ◌<◌, Bool, true, false, ◌&&◌, not, ◌==◌, ◌||◌, nat_le, nat_lt, if◌then◌else◌, List, length, map, slice_index, Option, Some, None, is_some}
use Rattle.std.specs.List.{All, range_with_len, find}
use Rattle.link_base.specs.Bytes.{number_bytes}
use Rattle.link_base.specs.PeFormat.{REL_AMD64_ADDR64, REL_AMD64_ADDR32}
use Rattle.link_base.specs.Refusals.{first_standing, first_refusal_below}
use Rattle.address_layout.specs.declared.layout.Layout.{Layout}
use Rattle.relocate.specs.declared.fix.Fix.{Fix}
use Rattle.relocate.specs.declared.range.RelocRange.{RelocRange}
use Rattle.relocate.specs.Field.{field_width, field_end, has_field, fix_at}
use Rattle.relocate.specs.FieldFaults.{is_absolute, target_faults}
use Rattle.relocate.specs.Value.{held, value_of, fits}

-- ---- the bytes

-- the field of a relocation has a byte
abbrev pub covers : ℕ → Fix → Bool
covers byte fix = has_field fix && (nat_le fix.at byte && nat_lt byte (field_end fix))

-- a byte of the number that a field holds for its value, which is computed from the old bytes
abbrev pub field_byte : ℕ → ℕ → Layout → List ℕ → List ℕ → Fix → ℕ → ℕ
field_byte base rva layout owner bytes fix byte =
    slice_index (number_bytes (field_width fix.kind) (held (field_width fix.kind) (value_of base rva layout owner bytes fix))) (byte - fix.at)

abbrev pub byte_by : ℕ → ℕ → Layout → List ℕ → List ℕ → ℕ → Option Fix → ℕ
byte_by base rva layout owner bytes byte None = slice_index bytes byte
byte_by base rva layout owner bytes byte (Some fix) = field_byte base rva layout owner bytes fix byte

-- inside a field the byte of its value, elsewhere the old byte
abbrev pub patched_byte : ℕ → ℕ → Layout → List ℕ → List Fix → List ℕ → ℕ → ℕ
patched_byte base rva layout owner fixes bytes byte = byte_by base rva layout owner bytes byte (find (covers byte) fixes)

-- the bytes of a section that stands at an RVA, in an image at a base
unfoldable pub patched_bytes : ℕ → ℕ → Layout → List ℕ → List Fix → List ℕ → List ℕ
patched_bytes base rva layout owner fixes bytes =
    map (patched_byte base rva layout owner fixes bytes) (range_with_len 0 (length bytes))

-- ---- values that do not fit

abbrev pub range_of : ℕ → ℕ → Layout → List ℕ → List ℕ → Fix → Option RelocRange
range_of base rva layout owner bytes fix =
    if has_field fix && not (fits base rva layout owner bytes fix) then Some (record { index = fix.index; value = value_of base rva layout owner bytes fix }) else None

-- that of the first relocation whose value is out of the range of its type
unfoldable pub range_fault : ℕ → ℕ → Layout → List ℕ → List Fix → List ℕ → Option RelocRange
range_fault base rva layout owner fixes bytes =
    first_refusal_below (length fixes) (λ k. range_of base rva layout owner bytes (fix_at fixes k))

-- the index of each relocation is its position
abbrev pub AreNumbered : List Fix → Type 0
AreNumbered fixes = (k : ℕ) → k < length fixes → (fix_at fixes k).index ≡ k

-- ---- the base

-- a field that holds an address, so that its value changes with the base (PE Format, "The .reloc Section (Image Only)")
abbrev pub is_based : Fix → Bool
is_based fix = ((fix.kind == REL_AMD64_ADDR64) || (fix.kind == REL_AMD64_ADDR32)) && not (is_absolute fix.target)

-- the symbol of each relocation that has a field is there, and means what suits the type
abbrev pub IsSuited : Bool → Bool → Fix → Type 0
IsSuited large pdata fix = (is_some fix.target ≡ true) × (first_standing (target_faults large pdata fix) ≡ None)

abbrev pub AreSuited : Bool → Bool → List Fix → Type 0
AreSuited large pdata fixes = All (λ fix. has_field fix ≡ true → IsSuited large pdata fix) fixes

-- no field holds an address
abbrev pub HaveNoBased : List Fix → Type 0
HaveNoBased fixes = All (λ fix. has_field fix ≡ true → is_based fix ≡ false) fixes
