-- What the fields of a section are once they are judged. Own.
use Rattle.std.specs.Prelude.{◌≡◌, ℕ, ◌<◌, ◌≤◌, false, List, length, Option, Some, None, option_map}
use Rattle.std.specs.Borrow.{Bor}
use Rattle.std.specs.List.{All, AllPairs, filter}
use Rattle.std.specs.List.Sorted.{IsPermutation}
use Rattle.link_base.specs.Refusals.{first_standing}
use Rattle.relocate.specs.declared.fix.Fix.{Fix}
use Rattle.relocate.specs.Field.{field_width, field_end, has_field}
use Rattle.relocate.specs.FieldFaults.{place_faults, target_faults}

-- the bytes of a section that may have none
abbrev pub size_of : Option ℕ → ℕ
size_of None = 0
size_of (Some len) = len

-- a relocation that can be patched in so many bytes: it has a field that lies in them, and a target that suits its type
pub record IsPatchable (len : ℕ) (fix : Fix) : Type 0 where
  pub some : 0 < field_width fix.kind
  pub place : first_standing (place_faults (Some len) fix) ≡ None
  pub target : first_standing (target_faults false false fix) ≡ None

-- each field ends before the next begins
abbrev pub AreApart : List Fix → Type 0
AreApart fixups = AllPairs (λ first second. field_end first ≤ second.at) fixups

-- each can be patched, and they ascend and share no byte
pub record ArePatchable (len : ℕ) (fixups : List Fix) : Type 0 where
  pub each : All (IsPatchable len) fixups
  pub apart : AreApart fixups

-- those that have a field, in another order
abbrev pub AreTheFields : List Fix → List Fix → Type 0
AreTheFields fixes fixups = IsPermutation (filter has_field fixes) fixups

-- how many bytes a section has, where it has any
abbrev pub len_of : Option (Bor (List ℕ)) → Option ℕ
len_of body = option_map (λ bytes. length bytes.now) body
