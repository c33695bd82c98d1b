-- Numbers by which most items of a list are told apart: where the number of one is below that of another, the one stands
-- before the other. Own.
use Rattle.std.specs.Prelude.{◌≡◌, ℕ, zero, suc, ◌+◌, ◌-◌, ◌*◌, ◌<◌, ◌^◌, nat_lt, if◌then◌else◌, List, slice_index}
use Rattle.std.specs.Ordering.{nat_cmp, then_cmp, on}
use Rattle.std.specs.declared.cmp.Ordering.{Ordering}
use Rattle.pdb_publics.specs.declared.fronts.Fronted.{Fronted}
use Rattle.pdb_publics.specs.declared.rows.PublicRow.{PublicRow}
use Rattle.pdb_publics.specs.declared.keys.HashKey.{HashKey}
use Rattle.pdb_publics.specs.declared.keys.PlaceKey.{PlaceKey}

-- the number of the first bytes of a text, the first of them counting most; a byte that it has not counts as zero
unfoldable pub text_front : ℕ → List ℕ → ℕ
text_front zero text = 0
text_front (suc n) text = 256 * text_front n text + slice_index text n

-- a number is that of so many bytes
pub record IsTextFront (n : ℕ) (text : List ℕ) (front : ℕ) : Type 0 where
  pub is : front ≡ text_front n text
  pub bytes : (k : ℕ) → k < n → slice_index text k < 256

-- ---- the numbers of rows and keys

-- the first eight bytes of the name
abbrev pub IsRowFront : PublicRow → ℕ → Type 0
IsRowFront row front = IsTextFront 8 row.name front

-- behind the bucket the length, and the first two bytes of the name; the greatest number where the length is too great
abbrev pub name_front : ℕ → ℕ → ℕ
name_front len first = if nat_lt len (2 ^ 16) then 2 ^ 16 * len + first else 2 ^ 32 - 1

pub record IsHashFront (key : HashKey) (front : ℕ) : Type 0 where
  pub first : ℕ
  pub text : IsTextFront 2 key.lowered first
  pub is : front ≡ 2 ^ 32 * key.bucket + name_front key.len first

-- behind the section the offset
pub record IsPlaceFront (key : PlaceKey) (front : ℕ) : Type 0 where
  pub small : key.offset < 2 ^ 32
  pub is : front ≡ 2 ^ 32 * key.section + key.offset

-- ---- items with their numbers, in order

abbrev pub fronted_cmp : {X : Type 0} → (X → X → Ordering) → Fronted X → Fronted X → Ordering
fronted_cmp cmp = then_cmp (on (λ key. key.front) nat_cmp) (on (λ key. key.item.now) cmp)
