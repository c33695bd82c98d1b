-- The number of a field by its type, and sums that are far from the ends of 64 bits.
use Rattle.std.proofs.Common.{◌≡◌, ◌≢◌, ℕ, ◌+◌, ◌-◌, ◌*◌, ◌%◌, ◌^◌, ◌<◌, ◌≤◌, ℤ, pos, negsuc, ◌+ℤ◌, ◌-ℤ◌, List, length, Option, Some, None, Result, Ok, Err, Bool, true, false, cond, refl, sym, ap, ◌∙◌, inl, inr, arith, le-leb, nat_lt}
use Rattle.std.proofs.lemmas.Bool.{ne_eqb, cases_lt, false≢true}
use Rattle.std.proofs.lemmas.Bool.Decides.{nat_tests}
use Rattle.std.proofs.lemmas.Int.{ints, int_rem_euclid_is}
use Rattle.std.proofs.Math.Nat.{mod-add-mod, mod-eq_of_lt}
use Rattle.std.specs.Int.{w32, w64, cast_signed, int_rem_euclid}
use Rattle.std.specs.Prelude.{unsigned_abs, int_le, int_lt, is_some, if◌then◌else◌}
use mir.Val.{to_z, of_z}
use Rattle.link_base.specs.Bytes.{number_at}
use Rattle.address_layout.specs.declared.layout.Layout.{Layout}
use Rattle.relocate.specs.declared.fix.Fix.{Fix}
use Rattle.link_base.specs.declared.kinds.target.TargetFault.{TargetFault}
use Rattle.relocate.specs.declared.fix.Target.{Target}
use Rattle.relocate.specs.Field.{field_width, has_field}
use Rattle.relocate.specs.declared.error.FieldError.TheVariants as error
use Rattle.link_base.specs.declared.kinds.target.RelocKind.TheVariants as kind
use Rattle.link_base.specs.Refusals.{shown}
use Rattle.link_base.proofs.OptionLemmas.{both_none}
use Rattle.relocate.specs.FieldFaults.{own_fault, place_faults}
use Rattle.relocate.specs.Judged.{IsPatchable}
use Rattle.relocate.specs.Value.{address_of, section_number, section_start, target_of, old_number, field_value, value_fits, parts_of, value_of, fits, lies_in, held}
use Rattle.relocate.specs.Written.{IsNear, IsMeant, CountsElsewhere, number_in, number_of, written_over, patched_by, one_patched, value_outside}
use Rattle.relocate.proofs.JudgeLemmas.{shown_none, absolute_width}
use Rattle.relocate.proofs.WriteLemmas.{width_other}
use Rattle.relocate.proofs.BaseLemmas.{suited, patchable_suits, from_behind, relative_sum}

-- ---- the number by the type

module _ (base rva : ℕ) (layout : Layout) (owner : List ℕ) (fix : Fix) (bytes : List ℕ) where
  pub number_addr64 : fix.kind ≡ 1 → number_of base rva layout owner fix bytes ≡ Some (held 8 (pos (address_of base layout (target_of fix)) +ℤ cast_signed w64 (number_at 8 bytes fix.at)))
  unfolding number_of value_fits field_value parts_of old_number field_width
  number_addr64 e = rw e refl

  pub number_addr32 : fix.kind ≡ 2 → number_of base rva layout owner fix bytes ≡ (if lies_in (pos 0) (pos 0x8000_0000) (pos (address_of 0 layout (target_of fix)) +ℤ cast_signed w32 (number_at 4 bytes fix.at)) then Some (held 4 (pos (address_of base layout (target_of fix)) +ℤ cast_signed w32 (number_at 4 bytes fix.at))) else None)
  unfolding number_of value_fits field_value parts_of old_number field_width
  number_addr32 e = rw e refl

  pub number_addr32nb : fix.kind ≡ 3 → number_of base rva layout owner fix bytes ≡ number_in 4 (pos 0) (pos 0x1_0000_0000) (pos (address_of 0 layout (target_of fix)) +ℤ cast_signed w32 (number_at 4 bytes fix.at))
  unfolding number_of value_fits field_value parts_of old_number field_width
  number_addr32nb e = rw e refl

  pub number_section : fix.kind ≡ 10 → number_of base rva layout owner fix bytes ≡ number_in 2 (pos 0) (pos 0x1_0000) (pos (section_number owner (target_of fix)) +ℤ pos (number_at 2 bytes fix.at))
  unfolding number_of value_fits field_value parts_of old_number field_width
  number_section e = rw e refl

  pub number_secrel : fix.kind ≡ 11 → number_of base rva layout owner fix bytes ≡ number_in 4 (pos 0) (pos 0x1_0000_0000) ((pos (address_of 0 layout (target_of fix)) -ℤ pos (section_start layout owner (target_of fix))) +ℤ cast_signed w32 (number_at 4 bytes fix.at))
  unfolding number_of value_fits field_value parts_of old_number field_width
  number_secrel e = rw e refl

  number_behind : field_width fix.kind ≡ 4 → fix.kind ≢ 1 → fix.kind ≢ 2 → fix.kind ≢ 3 → fix.kind ≢ 10 → fix.kind ≢ 11 → number_of base rva layout owner fix bytes ≡ number_in 4 (negsuc 0x7FFF_FFFF) (pos 0x8000_0000) ((pos (address_of base layout (target_of fix)) +ℤ cast_signed w32 (number_at 4 bytes fix.at)) -ℤ (pos (base + rva + fix.at) +ℤ pos (4 + (fix.kind - 4))))
  unfolding number_of value_fits field_value parts_of old_number
  number_behind four a b c d e = rw (four, ne_eqb fix.kind 1 a, ne_eqb fix.kind 2 b, ne_eqb fix.kind 3 c, ne_eqb fix.kind 10 d, ne_eqb fix.kind 11 e) refl

  -- the base cancels
  pub number_rel32 : IsPatchable (length bytes) fix → has_field fix ≡ true → 4 ≤ fix.kind → fix.kind ≤ 9
      → number_of base rva layout owner fix bytes ≡ number_in 4 (negsuc 0x7FFF_FFFF) (pos 0x8000_0000) ((pos (address_of 0 layout (target_of fix)) +ℤ cast_signed w32 (number_at 4 bytes fix.at)) -ℤ (pos (rva + fix.at) +ℤ pos (4 + (fix.kind - 4))))
  number_rel32 patchable some low high =
      let a : fix.kind ≢ 1 = omega arith in
      let b : fix.kind ≢ 2 = omega arith in
      let c : fix.kind ≢ 3 = omega arith in
      let d : fix.kind ≢ 10 = omega arith in
      let e : fix.kind ≢ 11 = omega arith in
      let moves = from_behind false false base 0 rva layout owner bytes fix some (patchable_suits (length bytes) fix patchable) a b in
      number_behind (width_other fix.kind patchable.some d a) a b c d e
      ∙ ap (number_in 4 (negsuc 0x7FFF_FFFF) (pos 0x8000_0000)) (relative_sum (address_of base layout (target_of fix)) (address_of 0 layout (target_of fix)) (base + rva + fix.at) (rva + fix.at) (4 + (fix.kind - 4)) (cast_signed w32 (number_at 4 bytes fix.at)) (omega arith))

-- ---- sums

abbrev same : ℤ → ℤ
same z = to_z w64 (of_z w64 z)

pub near_added : (n rva : ℕ) (x old : ℤ) → n ≡ rva → n < 2 ^ 33 → x ≡ old → IsNear x → same (to_z w64 n +ℤ same x) ≡ pos rva +ℤ old
near_added n rva x old e small f near = omega (arith, ints)

pub near_subtracted : (n rva start : ℕ) (x old y : ℤ) → n ≡ rva → n < 2 ^ 33 → x ≡ old → IsNear x → y ≡ pos start → start < 2 ^ 32 → same (same (to_z w64 n +ℤ same x) -ℤ same y) ≡ (pos rva -ℤ pos start) +ℤ old
near_subtracted n rva start x old y e small f near g low = omega (arith, ints)

pub near_behind : (n target rva at behind : ℕ) (x old y z w : ℤ) → n ≡ target → n < 2 ^ 33 → x ≡ old → IsNear x → y ≡ pos rva → rva < 2 ^ 32 → z ≡ pos at → at < 2 ^ 32 → w ≡ pos behind → behind < 2 ^ 17
    → same (same (to_z w64 n +ℤ same x) -ℤ same (same (same y +ℤ same z) +ℤ same w)) ≡ (pos target +ℤ old) -ℤ (pos (rva + at) +ℤ pos behind)
near_behind n target rva at behind x old y z w e small f near g low h under i short = omega (arith, ints)

pub low_moved : (under a rva : ℕ) (v old : ℤ) → v ≡ pos rva +ℤ old → a ≡ under + rva
    → (if lies_in (pos 0) (pos 0x8000_0000) v then Some (held 4 (pos under +ℤ v)) else None) ≡ (if lies_in (pos 0) (pos 0x8000_0000) (pos rva +ℤ old) then Some (held 4 (pos a +ℤ old)) else None)
low_moved under a rva v old e f =
    let sum : pos under +ℤ (pos rva +ℤ old) ≡ pos a +ℤ old = omega (arith, ints) in
    rw (e, sum) refl

-- ---- numbers of values

high_cast : (n : ℕ) → 2 ^ 63 ≤ n → n < 2 ^ 64 → cast_signed w64 n +ℤ pos (1 * 2 ^ 64) ≡ pos n
high_cast n low high = grind (arith, ints, nat_tests)

low_cast : (n : ℕ) → n < 2 ^ 63 → cast_signed w64 n ≡ pos n
low_cast n low = omega (arith, ints)

cast_held : (a n : ℕ) → n < 2 ^ 64 → (a + n) % 2 ^ 64 ≡ held 8 (pos a +ℤ cast_signed w64 n)
unfolding held
cast_held a n short =
    elim (cases_lt n (2 ^ 63)) [
      | inl low ↦ let e = low_cast n low in
          sym (ap unsigned_abs (int_rem_euclid_is (pos a +ℤ cast_signed w64 n) (pos (2 ^ 64)) (2 ^ 64) 0 (a + n) (omega arith) refl (omega (arith, ints))))
      | inr high ↦ let e = high_cast n high short in
          sym (ap unsigned_abs (int_rem_euclid_is (pos a +ℤ cast_signed w64 n) (pos (2 ^ 64)) (2 ^ 64) 1 (a + n) (omega arith) refl (omega (arith, ints))))
    ]

pub address_held : (under rva a n contents : ℕ) → a ≡ under + rva → n ≡ contents → n < 2 ^ 64 → ((under + rva) % 2 ^ 64 + n) % 2 ^ 64 ≡ held 8 (pos a +ℤ cast_signed w64 contents)
address_held under rva a n contents e f short =
    mod-add-mod (under + rva) (2 ^ 64) n ∙ rw (sym e, sym f) (cast_held a n short)

is_below : (m n : ℕ) → int_lt (pos m) (pos n) ≡ true → m < n
is_below m n e = grind (arith, nat_tests)

pub two_is : (m : ℕ) → m < 0x1_0000 → Some m ≡ number_in 2 (pos 0) (pos 0x1_0000) (pos m)
unfolding held
two_is m lt = let low = le-leb 0 m (omega arith) in let high : int_lt (pos m) (pos 0x1_0000) ≡ true = grind (arith, nat_tests) in rw (low, high) (ap Some (sym (mod-eq_of_lt lt)))

unsigned_by : (v : ℤ) → int_le (pos 0) v ≡ true → int_lt v (pos 0x1_0000_0000) ≡ true → Some (unsigned_abs v) ≡ number_in 4 (pos 0) (pos 0x1_0000_0000) v
unfolding held
unsigned_by (pos m) low high = rw (low, high) (ap Some (sym (mod-eq_of_lt (is_below m 0x1_0000_0000 high))))
unsigned_by (negsuc m) low high = absurd (false≢true low)

pub unsigned_is : (v w : ℤ) → w ≡ v → int_le (pos 0) w ≡ true → int_lt w (pos 0x1_0000_0000) ≡ true → Some (unsigned_abs w) ≡ number_in 4 (pos 0) (pos 0x1_0000_0000) v
unsigned_is v w e low high = rw e (unsigned_by v (rw e at low) (rw e at high))

low_by : (base : ℕ) (v : ℤ) → int_le (pos 0) v ≡ true → int_lt v (pos 0x8000_0000) ≡ true → Some ((base % 0x1_0000_0000 + unsigned_abs v) % 0x1_0000_0000) ≡ (if lies_in (pos 0) (pos 0x8000_0000) v then Some (held 4 (pos base +ℤ v)) else None)
unfolding held
low_by base (pos m) low high = rw (low, high) (ap Some (mod-add-mod base 0x1_0000_0000 m))
low_by base (negsuc m) low high = absurd (false≢true low)

pub low_is : (base : ℕ) (v w : ℤ) → w ≡ v → int_le (pos 0) w ≡ true → int_lt w (pos 0x8000_0000) ≡ true → Some ((base % 0x1_0000_0000 + unsigned_abs w) % 0x1_0000_0000) ≡ (if lies_in (pos 0) (pos 0x8000_0000) v then Some (held 4 (pos base +ℤ v)) else None)
low_is base v w e low high = rw e (low_by base v (rw e at low) (rw e at high))

pub signed_is : (v w r : ℤ) → w ≡ v → int_le (negsuc 0x7FFF_FFFF) w ≡ true → int_lt w (pos 0x8000_0000) ≡ true → r ≡ int_rem_euclid w (pos 0x1_0000_0000) → Some (unsigned_abs r) ≡ number_in 4 (negsuc 0x7FFF_FFFF) (pos 0x8000_0000) v
unfolding held
signed_is v w r e low high f = rw (f, sym e, low, high) refl

-- ---- a field patched by its number

pub linked_kind : (len : ℕ) (fix : Fix) → IsPatchable len fix → fix.kind ≤ 11
unfolding place_faults
linked_kind len fix patchable =
    let first = both_none (shown (nat_lt 11 fix.kind) (error.Reloc fix.index kind.Kind)) _ patchable.place in
    let none = shown_none (nat_lt 11 fix.kind) (error.Reloc fix.index kind.Kind) first.0 in
    grind (arith, nat_tests)

-- the last type that is left
pub secrel_left : (len : ℕ) (fix : Fix) → IsPatchable len fix → CountsElsewhere fix.kind → fix.kind ≢ 1 → fix.kind ≢ 2 → fix.kind ≢ 3 → fix.kind ≢ 10 → fix.kind ≡ 11
secrel_left len fix patchable elsewhere a b c d =
    let high = linked_kind len fix patchable in
    elim elsewhere [
      | inl below ↦ let none = absolute_width fix.kind (omega arith) in let some = patchable.some in absurd (omega arith)
      | inr above ↦ omega arith
    ]

-- its symbol is there
pub is_meant : (len : ℕ) (fix : Fix) → IsPatchable len fix → IsMeant fix.target
is_meant len fix patchable =
    let suits = patchable_suits len fix patchable in
    by fix.target suits.0 (suited false false fix suits).0
  where
    by : (target : Option (Result Target TargetFault)) → is_some target ≡ true → own_fault target ≡ None → IsMeant target
    by None some own = absurd (false≢true some)
    by (Some (Err fault)) some own = absurd cc
    by (Some (Ok target)) some own = tt

by_number : (fit : Bool) (number : Option ℕ) (n : ℕ) → number ≡ cond fit (Some n) None → is_some number ≡ fit
by_number true number n e = rw e refl
by_number false number n e = rw e refl

module _ (base rva : ℕ) (layout : Layout) (owner : List ℕ) (fix : Fix) (bytes : List ℕ) where
  -- a number is there where the value fits, and the field is patched by it
  pub number_fits : (number : Option ℕ) → number ≡ number_of base rva layout owner fix bytes → is_some number ≡ fits base rva layout owner bytes fix
  unfolding number_of
  number_fits number e = by_number (fits base rva layout owner bytes fix) number (held (field_width fix.kind) (value_of base rva layout owner bytes fix)) e

  pub number_patched : (number : Option ℕ) → number ≡ number_of base rva layout owner fix bytes → patched_by bytes fix number ≡ one_patched base rva layout owner fix bytes
  unfolding number_of one_patched
  number_patched number e = rw e (by (fits base rva layout owner bytes fix) (held (field_width fix.kind) (value_of base rva layout owner bytes fix)))
    where
      by : (fit : Bool) (n : ℕ) → patched_by bytes fix (cond fit (Some n) None) ≡ cond fit (written_over bytes fix n) bytes
      by true n = refl
      by false n = refl

  pub none_outside : fits base rva layout owner bytes fix ≡ true → None ≡ value_outside base rva layout owner fix bytes
  unfolding value_outside
  none_outside fitting = rw fitting refl

  -- where the value does not fit, the bytes are the old ones
  pub left_there : fits base rva layout owner bytes fix ≡ false → one_patched base rva layout owner fix bytes ≡ bytes
  unfolding one_patched
  left_there misfit = rw misfit refl

  pub value_there : fits base rva layout owner bytes fix ≡ false → Some (value_of base rva layout owner bytes fix) ≡ value_outside base rva layout owner fix bytes
  unfolding value_outside
  value_there misfit = rw misfit refl
