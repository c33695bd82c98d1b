-- Why the fields of a section are refused: for each relocation a table of tests in their order, and of all relocations
-- the first that has a fault. Own; the types are those of the PE Format, "Type Indicators", x64 Processors.
use Rattle.std.specs.Prelude.{◌≡◌, ℕ, Bool, true, false, ◌&&◌, not, ◌==◌, nat_lt, nat_le, if◌then◌else◌, List, [], ◌∷◌, ◌++◌, length, Option, Some, None, option_map, is_some, is_none, Result, Ok, Err}
use Rattle.link_base.specs.Bytes.{first_below}
use Rattle.link_base.specs.Refusals.{shown, first_standing, first_refusal_below}
use Rattle.link_base.specs.PeFormat.{REL_AMD64_ABSOLUTE, REL_AMD64_ADDR32, REL_AMD64_ADDR32NB, REL_AMD64_SECTION, REL_AMD64_SECREL}
use Rattle.link_base.specs.declared.kinds.target.TargetFault.{TargetFault}
use Rattle.link_base.specs.declared.kinds.target.TargetFault.TheVariants as target
use Rattle.link_base.specs.declared.kinds.target.RelocKind.TheVariants as kind
use Rattle.relocate.specs.declared.fix.Fix.{Fix}
use Rattle.relocate.specs.declared.fix.Target.{Target}
use Rattle.relocate.specs.declared.fix.Target.TheVariants.{Piece, Absolute, ImageBase}
use Rattle.relocate.specs.declared.error.FieldError.{FieldError}
use Rattle.relocate.specs.declared.error.FieldError.TheVariants as error
use Rattle.relocate.specs.Field.{field_end, shares_byte, fix_at}

-- ---- the place of a field

-- a field does not lie in the bytes of its section, of which there are so many, or none at all
abbrev pub leaves_body : Option ℕ → Fix → Bool
leaves_body None fix = true
leaves_body (Some len) fix = nat_lt len (field_end fix)

unfoldable pub place_faults : Option ℕ → Fix → List (Option FieldError)
place_faults body_len fix =
    shown (nat_lt REL_AMD64_SECREL fix.kind) (error.Reloc fix.index kind.Kind)
    ∷ shown (leaves_body body_len fix) (error.Reloc fix.index kind.Field)
    ∷ shown (is_none fix.target) (error.Reloc fix.index kind.Index)
    ∷ []

-- a field shares a byte with that of an earlier relocation
unfoldable pub overlaps_earlier : List Fix → ℕ → Bool
overlaps_earlier fixes k = is_some (first_below k (λ j. shares_byte (fix_at fixes j) (fix_at fixes k)))

-- ---- the target

abbrev pub own_fault : Option (Result Target TargetFault) → Option TargetFault
own_fault None = None
own_fault (Some (Ok target)) = None
own_fault (Some (Err fault)) = Some fault

abbrev pub is_absolute : Option (Result Target TargetFault) → Bool
is_absolute None = false
is_absolute (Some (Err fault)) = false
is_absolute (Some (Ok (Piece piece value))) = false
is_absolute (Some (Ok (Absolute value))) = true
is_absolute (Some (Ok ImageBase)) = false

abbrev pub is_image_base : Option (Result Target TargetFault) → Bool
is_image_base None = false
is_image_base (Some (Err fault)) = false
is_image_base (Some (Ok (Piece piece value))) = false
is_image_base (Some (Ok (Absolute value))) = false
is_image_base (Some (Ok ImageBase)) = true

-- Local, Discarded and Unplaced are faults of what the symbol means, whatever the type; ADDR32NB and the types above it
-- are relative to the image
unfoldable pub target_faults : Bool → Bool → Fix → List (Option FieldError)
target_faults large pdata fix =
    option_map (error.Target fix.index) (own_fault fix.target)
    ∷ shown (nat_le REL_AMD64_ADDR32NB fix.kind && is_absolute fix.target) (error.Target fix.index target.AbsRelative)
    ∷ shown (nat_le REL_AMD64_SECTION fix.kind && is_image_base fix.target) (error.Target fix.index target.NoSection)
    ∷ shown ((fix.kind == REL_AMD64_ADDR32) && (not (is_absolute fix.target) && large)) (error.Target fix.index target.NeedsLow)
    ∷ shown (pdata && not (fix.kind == REL_AMD64_ADDR32NB)) (error.Target fix.index target.PdataField)
    ∷ []

-- ---- all tests

-- of a relocation whose field overlaps that of an earlier one, or does not
abbrev pub faults_of : Option ℕ → Bool → Bool → Fix → Bool → List (Option FieldError)
faults_of body_len large pdata fix overlaps =
    place_faults body_len fix
    ++ (shown overlaps (error.Reloc fix.index kind.Overlap)
    ∷ target_faults large pdata fix)

-- one of type ABSOLUTE passes all tests
unfoldable pub fault_of : Option ℕ → Bool → Bool → Fix → Bool → Option FieldError
fault_of body_len large pdata fix overlaps =
    if fix.kind == REL_AMD64_ABSOLUTE then None
    else first_standing (faults_of body_len large pdata fix overlaps)

abbrev pub fault_at : Option ℕ → Bool → Bool → List Fix → ℕ → Option FieldError
fault_at body_len large pdata fixes k = fault_of body_len large pdata (fix_at fixes k) (overlaps_earlier fixes k)

-- the fault of the first relocation that has one
abbrev pub field_fault : Option ℕ → Bool → Bool → List Fix → Option FieldError
field_fault body_len large pdata fixes = first_refusal_below (length fixes) (fault_at body_len large pdata fixes)

-- a refusal is that of the fault that stands; of want of memory nothing is said
abbrev pub RefusesFor : Option FieldError → FieldError → Type 0
RefusesFor standing (error.Reloc index kind) = standing ≡ Some (error.Reloc index kind)
RefusesFor standing (error.Target index kind) = standing ≡ Some (error.Target index kind)
RefusesFor standing error.Memory = Unit {0}
