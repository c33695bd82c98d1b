-- The rows of the table of values, and sums that are far from the ends of 128 bits.
use Rattle.std.proofs.Common.{◌≡◌, ◌≢◌, ℕ, ◌+◌, ◌-◌, ◌<◌, ◌^◌, ℤ, pos, ◌+ℤ◌, ◌-ℤ◌, refl, arith}
use Rattle.std.proofs.lemmas.Bool.{ne_eqb}
use Rattle.std.proofs.lemmas.Int.{ints}
use mir.Syntax.{w128}
use mir.Val.{to_z, of_z}
use Rattle.relocate.specs.declared.value.Parts.{Parts}
use Rattle.relocate.specs.Value.{IsSmall, field_value, value_fits, lies_in}

-- a number through its bits
abbrev same : ℤ → ℤ
same z = to_z w128 (of_z w128 z)

pub added : (a b : ℤ) → IsSmall a → IsSmall b → same (same a +ℤ same b) ≡ a +ℤ b
added a b small other = omega (arith, ints)

pub subtracted_added : (a b c : ℤ) → IsSmall a → IsSmall b → IsSmall c → same (same (same a -ℤ same b) +ℤ same c) ≡ (a -ℤ b) +ℤ c
subtracted_added a b c small other third = omega (arith, ints)

pub added_subtracted : (a b c : ℤ) (n : ℕ) → IsSmall a → IsSmall b → IsSmall c → n < 2 ^ 16 → same (same (same a +ℤ same b) -ℤ same (same c +ℤ same (pos 4 +ℤ to_z w128 n))) ≡ (a +ℤ b) -ℤ (c +ℤ pos (4 + n))
added_subtracted a b c n small other third fits = omega (arith, ints)

-- ---- the rows

pub row_addr64 : (kind : ℕ) (parts : Parts) → kind ≡ 1 → field_value kind parts ≡ parts.address +ℤ parts.old
unfolding field_value
row_addr64 kind parts e = rw e refl

pub row_addr32 : (kind : ℕ) (parts : Parts) → kind ≡ 2 → field_value kind parts ≡ parts.address +ℤ parts.old
unfolding field_value
row_addr32 kind parts e = rw e refl

pub row_addr32nb : (kind : ℕ) (parts : Parts) → kind ≡ 3 → field_value kind parts ≡ parts.rva +ℤ parts.old
unfolding field_value
row_addr32nb kind parts e = rw e refl

pub row_section : (kind : ℕ) (parts : Parts) → kind ≡ 10 → field_value kind parts ≡ parts.number +ℤ parts.old
unfolding field_value
row_section kind parts e = rw e refl

pub row_secrel : (kind : ℕ) (parts : Parts) → kind ≡ 11 → field_value kind parts ≡ (parts.rva -ℤ parts.start) +ℤ parts.old
unfolding field_value
row_secrel kind parts e = rw e refl

pub row_rel32 : (kind : ℕ) (parts : Parts) → kind ≢ 1 → kind ≢ 2 → kind ≢ 3 → kind ≢ 10 → kind ≢ 11 → field_value kind parts ≡ (parts.address +ℤ parts.old) -ℤ (parts.place +ℤ pos (4 + (kind - 4)))
unfolding field_value
row_rel32 kind parts a b c d e = rw (ne_eqb kind 1 a, ne_eqb kind 2 b, ne_eqb kind 3 c, ne_eqb kind 10 d, ne_eqb kind 11 e) refl

pub fits_addr32 : (kind : ℕ) (parts : Parts) → kind ≡ 2 → value_fits kind parts ≡ lies_in (pos 0) (pos 0x8000_0000) (parts.rva +ℤ parts.old)
unfolding value_fits
fits_addr32 kind parts e = rw e refl
