-- The bytes of a section at two bases: a based field moves with the base, and every other byte is the same.
use Rattle.std.proofs.Common.{◌≡◌, ℕ, suc, ◌+◌, ◌-◌, ◌*◌, ◌/◌, ◌%◌, ◌^◌, ◌<◌, ◌≤◌, ℤ, pos, negsuc, ◌+ℤ◌, ◌-ℤ◌, List, length, slice_index, Option, Some, None, Bool, true, false, eqb, refl, sym, ap, ◌∙◌, inl, inr, ◌⊎◌, arith, subst}
use Rattle.std.proofs.lemmas.Bool.{cases_lt, false≢true}
use Rattle.std.proofs.lemmas.Int.{ints, int_rem_euclid_is}
use Rattle.std.proofs.lemmas.List.{get_or_past}
use Rattle.std.proofs.lemmas.List.FromFn.{get_or-map-range_with_len}
use Rattle.std.proofs.Math.Nat.{add-mul-mod_self_right, mod-add-mod, mod-add-div}
use Rattle.std.specs.Int.{int_rem_euclid}
use Rattle.std.specs.List.{find}
use Rattle.std.specs.Prelude.{unsigned_abs}
use Rattle.link_base.specs.Bytes.{number_at, number_bytes}
use Rattle.link_base.proofs.PutLemmas.{number_at-same}
use Rattle.link_base.proofs.NumberLemmas.{far_enough}
use Rattle.address_layout.specs.declared.layout.Layout.{Layout}
use Rattle.relocate.specs.declared.fix.Fix.{Fix}
use Rattle.relocate.specs.Field.{field_width, field_end, no_fix, fix_at}
use Rattle.relocate.specs.FieldFaults.{is_absolute}
use Rattle.relocate.specs.Judged.{AreTheFields, ArePatchable}
use Rattle.relocate.specs.Value.{value_of, held, IsOutside}
use Rattle.relocate.specs.Written.{written_over}
use Rattle.relocate.specs.PatchedBytes.{covers, byte_by, patched_byte, patched_bytes, is_based, IsSuited}
use Rattle.relocate.proofs.FindLemmas.{PassesOnce, found_in, none_found}
use Rattle.relocate.proofs.WriteLemmas.{width_addr64, width_addr32, written_inside, written_there, held_fits}
use Rattle.relocate.proofs.PatchLemmas.{within_at}
use Rattle.relocate.proofs.PatchedLemmas.{covers_is, is_covered}
use Rattle.relocate.proofs.OrderLemmas.{covered_once, bytes_in_any_order}
use Rattle.relocate.proofs.BaseLemmas.{patchable_suits, based_by, value_stays, value_moves, length_patched}

-- ---- a field that can be patched

-- it ends inside the bytes
pub ends_within : (len : ℕ) (fixups : List Fix) (k : ℕ) → ArePatchable len fixups → k < length fixups → field_end (fix_at fixups k) ≤ len
ends_within len fixups k patchable lt = within_at len (fix_at fixups k) (patchable.each k no_fix lt)

-- a field that holds an address is one of eight bytes or of four
pub based_width : (fix : Fix) → is_based fix ≡ true → ((fix.kind ≡ 1) × (field_width fix.kind ≡ 8)) ⊎ ((fix.kind ≡ 2) × (field_width fix.kind ≡ 4))
based_width fix based = by (based_by (eqb fix.kind 1) (eqb fix.kind 2) (is_absolute fix.target) based).0
  where
    by : (eqb fix.kind 1 ≡ true) ⊎ (eqb fix.kind 2 ≡ true) → ((fix.kind ≡ 1) × (field_width fix.kind ≡ 8)) ⊎ ((fix.kind ≡ 2) × (field_width fix.kind ≡ 4))
    by (inl e) = let is : fix.kind ≡ 1 = grind arith in inl (is, width_addr64 fix.kind is)
    by (inr e) = let is : fix.kind ≡ 2 = grind arith in inr (is, width_addr32 fix.kind is)

-- ---- a byte, and the number of a field

pub byte_patched : (base rva : ℕ) (layout : Layout) (owner : List ℕ) (fixes : List Fix) (bytes : List ℕ) (byte : ℕ) → byte < length bytes → slice_index (patched_bytes base rva layout owner fixes bytes) byte ≡ patched_byte base rva layout owner fixes bytes byte
unfolding patched_bytes
byte_patched base rva layout owner fixes bytes byte lt =
    get_or-map-range_with_len (patched_byte base rva layout owner fixes bytes) 0 (length bytes) byte byte 0 lt (omega arith)

pub found_once : (test : Fix → Bool) (fixups : List Fix) (k : ℕ) → PassesOnce test fixups → k < length fixups → test (fix_at fixups k) ≡ true → find test fixups ≡ Some (fix_at fixups k)
unfolding PassesOnce
found_once test fixups k once lt passes = by (find test fixups) refl
  where
    by : (found : Option Fix) → find test fixups ≡ found → found ≡ Some (fix_at fixups k)
    by None none = absurd (false≢true (sym (none_found test fixups none k no_fix lt) ∙ passes))
    by (Some fix) e =
        let there = found_in test fixups fix no_fix e in
        ap Some (sym there.2 ∙ ap (fix_at fixups) (once there.0 k no_fix there.1 lt (ap test there.2 ∙ there.3) passes))

-- a field holds its value
pub number_patched : (base rva : ℕ) (layout : Layout) (owner : List ℕ) (fixups : List Fix) (bytes : List ℕ) (k : ℕ) → ArePatchable (length bytes) fixups → k < length fixups
    → number_at (field_width (fix_at fixups k).kind) (patched_bytes base rva layout owner fixups bytes) (fix_at fixups k).at ≡ held (field_width (fix_at fixups k).kind) (value_of base rva layout owner bytes (fix_at fixups k))
number_patched base rva layout owner fixups bytes k patchable lt =
    number_at-same (field_width fix.kind) fix.at (patched_bytes base rva layout owner fixups bytes) (written_over bytes fix number) same
    ∙ written_there bytes fix number end (held_fits fix.kind (value_of base rva layout owner bytes fix))
  where
    fix : Fix
    fix = fix_at fixups k

    number : ℕ
    number = held (field_width fix.kind) (value_of base rva layout owner bytes fix)

    end : field_end fix ≤ length bytes
    end = ends_within (length bytes) fixups k patchable lt

    same : (byte : ℕ) → fix.at ≤ byte → byte < fix.at + field_width fix.kind → slice_index (patched_bytes base rva layout owner fixups bytes) byte ≡ slice_index (written_over bytes fix number) byte
    same byte low high =
        let inside : byte < length bytes = omega (arith, end) in
        let some = (patchable.each k no_fix lt).some in
        byte_patched base rva layout owner fixups bytes byte inside
        ∙ ap (byte_by base rva layout owner bytes byte) (found_once (covers byte) fixups k (covered_once fixups byte patchable.apart) lt (is_covered byte fix.at (field_width fix.kind) some low high))
        ∙ sym (written_inside bytes fix number byte end low high)

-- ---- the number of a value that moves

reaches : (n : ℕ) (value : ℤ) → 0 < n → (k m : ℕ) × (value +ℤ pos (k * n) ≡ pos m)
reaches n (pos a) some = (0, a, omega (arith, ints))
reaches n (negsuc a) some = let le = far_enough (suc a) n some in (suc a, suc a * n - suc a, omega (arith, ints))

parted : (n p d : ℕ) → d ≡ d % (p * n) + p * (d / (p * n)) * n
parted n p d = omega (arith, mod-add-div d (p * n))

rest_moved : (n p m d : ℕ) → (m + d) % n ≡ (m % n + d % (p * n)) % n
rest_moved n p m d =
    ap (λ (x : ℕ). x % n) (omega (arith, parted n p d))
    ∙ add-mul-mod_self_right (m + d % (p * n)) (p * (d / (p * n))) n
    ∙ sym (mod-add-mod m n (d % (p * n)))

rem_moved : (n p base other : ℕ) (value : ℤ) → 0 < n → base < p * n → unsigned_abs (int_rem_euclid (value +ℤ (pos other -ℤ pos base)) (pos n)) ≡ (unsigned_abs (int_rem_euclid value (pos n)) + (other + p * n - base) % (p * n)) % n
rem_moved n p base other value some lt =
    let here = reaches n value some in
    let sum : (value +ℤ (pos other -ℤ pos base)) +ℤ pos ((here.0 + p) * n) ≡ pos (here.1 + (other + p * n - base)) = omega (arith, ints, here.2) in
    ap unsigned_abs (int_rem_euclid_is (value +ℤ (pos other -ℤ pos base)) (pos n) n (here.0 + p) (here.1 + (other + p * n - base)) some refl sum)
    ∙ rest_moved n p here.1 (other + p * n - base)
    ∙ ap (λ (z : ℤ). (unsigned_abs z + (other + p * n - base) % (p * n)) % n) (sym (int_rem_euclid_is value (pos n) n here.0 here.1 some refl here.2))

pub based_moved : (base other : ℕ) (value : ℤ) (fix : Fix) → is_based fix ≡ true → base < 2 ^ 64
    → held (field_width fix.kind) (value +ℤ (pos other -ℤ pos base)) ≡ (held (field_width fix.kind) value + (other + 2 ^ 64 - base) % 2 ^ 64) % 2 ^ (8 * field_width fix.kind)
unfolding held
based_moved base other value fix based lt =
    elim (based_width fix based) [
      | inl wide ↦ rw wide.1 (rem_moved (2 ^ 64) 1 base other value (omega arith) lt)
      | inr narrow ↦ rw narrow.1 (rem_moved (2 ^ 32) (2 ^ 32) base other value (omega arith) lt)
    ]

-- ---- a section at two bases

module _ (base other rva : ℕ) (layout : Layout) (owner : List ℕ) (fixes fixups : List Fix) (bytes : List ℕ) where
  -- a based field moves by the difference of the bases, modulo its width
  pub field_moved : AreTheFields fixes fixups → ArePatchable (length bytes) fixups → base < 2 ^ 64 → (k : ℕ) → k < length fixups → is_based (fix_at fixups k) ≡ true
      → number_at (field_width (fix_at fixups k).kind) (patched_bytes other rva layout owner fixes bytes) (fix_at fixups k).at
      ≡ (number_at (field_width (fix_at fixups k).kind) (patched_bytes base rva layout owner fixes bytes) (fix_at fixups k).at + (other + 2 ^ 64 - base) % 2 ^ 64) % 2 ^ (8 * field_width (fix_at fixups k).kind)
  field_moved fields patchable low k lt based =
      let fix : Fix = fix_at fixups k in
      let here = bytes_in_any_order base rva layout owner fixes fixups bytes (length bytes) fields patchable in
      let there = bytes_in_any_order other rva layout owner fixes fixups bytes (length bytes) fields patchable in
      let suits = patchable_suits (length bytes) fix (patchable.each k no_fix lt) in
      rw (sym here, sym there, number_patched base rva layout owner fixups bytes k patchable lt, number_patched other rva layout owner fixups bytes k patchable lt, value_moves false false base other rva layout owner bytes fix suits based)
      (based_moved base other (value_of base rva layout owner bytes fix) fix based low)

  -- a byte of no based field stays
  pub byte_stays : AreTheFields fixes fixups → ArePatchable (length bytes) fixups → (byte : ℕ) → ((k : ℕ) → k < length fixups → is_based (fix_at fixups k) ≡ true → IsOutside byte (fix_at fixups k))
      → slice_index (patched_bytes other rva layout owner fixes bytes) byte ≡ slice_index (patched_bytes base rva layout owner fixes bytes) byte
  byte_stays fields patchable byte outside =
      let here = bytes_in_any_order base rva layout owner fixes fixups bytes (length bytes) fields patchable in
      let there = bytes_in_any_order other rva layout owner fixes fixups bytes (length bytes) fields patchable in
      rw (sym here, sym there) (elim (cases_lt byte (length bytes)) [
        | inl lt ↦
            byte_patched other rva layout owner fixups bytes byte lt
            ∙ by (find (covers byte) fixups) refl
            ∙ sym (byte_patched base rva layout owner fixups bytes byte lt)
        | inr past ↦
            get_or_past (patched_bytes other rva layout owner fixups bytes) byte 0 (omega (arith, length_patched other rva layout owner fixups bytes))
            ∙ sym (get_or_past (patched_bytes base rva layout owner fixups bytes) byte 0 (omega (arith, length_patched base rva layout owner fixups bytes)))
      ])
    where
      still : (k : ℕ) → k < length fixups → covers byte (fix_at fixups k) ≡ true → (based : Bool) → is_based (fix_at fixups k) ≡ based → based ≡ false
      still k lt covered false e = refl
      still k lt covered true e =
          let within = covers_is byte (fix_at fixups k) covered in
          let low = within.1 in
          let high = within.2 in
          elim (outside k lt e) [ inl before ↦ absurd (omega arith) | inr behind ↦ absurd (omega arith) ]

      by : (found : Option Fix) → find (covers byte) fixups ≡ found → byte_by other rva layout owner bytes byte found ≡ byte_by base rva layout owner bytes byte found
      by None e = refl
      by (Some fix) e =
          let there = found_in (covers byte) fixups fix no_fix e in
          let covered = ap (covers byte) there.2 ∙ there.3 in
          let some = (covers_is byte fix there.3).0 in
          let suits = subst (IsSuited false false) there.2 (patchable_suits (length bytes) (fix_at fixups there.0) (patchable.each there.0 no_fix there.1)) in
          let stays = subst (λ (each : Fix). is_based each ≡ false) there.2 (still there.0 there.1 covered (is_based (fix_at fixups there.0)) refl) in
          ap (λ (value : ℤ). slice_index (number_bytes (field_width fix.kind) (held (field_width fix.kind) value)) (byte - fix.at)) (value_stays false false other base rva layout owner bytes fix some suits stays)
