-- Relocations that do not ascend, and the fields that are taken, each with its width at its place: what the steps of the
-- code promise one another.
use Rattle.std.specs.Prelude.{◌≡◌, ℕ, ◌<◌, ◌≤◌, true, List, length, Option, Some}
use Rattle.std.specs.Ordering.{nat_cmp}
use Rattle.std.specs.BTreeMap as tree
use Rattle.std.specs.BTreeMap.{BTreeMap}
use Rattle.relocate.specs.declared.fix.Fix.{Fix}
use Rattle.relocate.specs.Field.{has_field, field_end, fix_at}

-- a relocation stands before the end of the field of an earlier one
pub record Descend (fixes : List Fix) : Type 0 where
  pub earlier : ℕ
  pub later : ℕ
  pub order : earlier < later
  pub there : later < length fixes
  pub field : has_field (fix_at fixes earlier) ≡ true
  pub before : (fix_at fixes later).at < field_end (fix_at fixes earlier)

abbrev pub width_at : BTreeMap ℕ ℕ → ℕ → Option ℕ
width_at taken place = tree.get nat_cmp taken place

abbrev pub AreNarrow : BTreeMap ℕ ℕ → Type 0
AreNarrow taken = (place width : ℕ) → width_at taken place ≡ Some width → width ≤ 8
