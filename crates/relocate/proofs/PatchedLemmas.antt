-- Patched bytes are those of the definition, by position.
use Rattle.std.proofs.Common.{◌≡◌, ℕ, ◌+◌, ◌<◌, ◌≤◌, List, length, slice_index, Option, Some, None, true, false, ◌&&◌, refl, sym, ap, ◌∙◌, inl, inr, arith, lt-ltb, le-leb, nat_lt, nat_le, subst}
use Rattle.std.proofs.lemmas.Bool.{cases_lt, false≢true, and_parts}
use Rattle.std.proofs.lemmas.Bool.Decides.{nat_tests}
use Rattle.std.proofs.lemmas.List.FromFn.{fill_by_all}
use Rattle.std.specs.List.{find}
use Rattle.address_layout.specs.declared.layout.Layout.{Layout}
use Rattle.relocate.specs.declared.fix.Fix.{Fix}
use Rattle.relocate.specs.Field.{field_width, field_end, has_field, no_fix, fix_at}
use Rattle.relocate.specs.Judged.{ArePatchable}
use Rattle.relocate.specs.PatchedBytes.{covers, field_byte, byte_by, patched_bytes}
use Rattle.relocate.specs.Value.{IsOutside}
use Rattle.relocate.proofs.FindLemmas.{found_in, none_found}
use Rattle.relocate.proofs.PatchLemmas.{PatchedTo}

-- ---- a byte of a field

inside : (at end byte : ℕ) → nat_le at byte && nat_lt byte end ≡ true → (at ≤ byte) × (byte < end)
inside at end byte e = let both = and_parts (nat_le at byte) (nat_lt byte end) e in (low both.0, high both.1)
  where
    low : nat_le at byte ≡ true → at ≤ byte
    low e = grind (arith, nat_tests)

    high : nat_lt byte end ≡ true → byte < end
    high e = grind (arith, nat_tests)

pub covers_is : (byte : ℕ) (fix : Fix) → covers byte fix ≡ true → (has_field fix ≡ true) × (fix.at ≤ byte) × (byte < field_end fix)
covers_is byte fix e =
    let both = and_parts (has_field fix) (nat_le fix.at byte && nat_lt byte (field_end fix)) e in
    let within = inside fix.at (field_end fix) byte both.1 in
    (both.0, within.0, within.1)

pub is_covered : (byte at width : ℕ) → 0 < width → at ≤ byte → byte < at + width → nat_lt 0 width && (nat_le at byte && nat_lt byte (at + width)) ≡ true
is_covered byte at width some low high =
    let a = lt-ltb 0 width some in
    let b = le-leb at byte low in
    let c = lt-ltb byte (at + width) high in
    rw (a, b, c) refl

pub outside_of : (byte : ℕ) (fix : Fix) → 0 < field_width fix.kind → covers byte fix ≡ false → IsOutside byte fix
outside_of byte fix some e =
    elim (cases_lt byte fix.at) [
      | inl before ↦ inl before
      | inr from ↦ elim (cases_lt byte (field_end fix)) [
        | inl within ↦ absurd (false≢true (sym e ∙ is_covered byte fix.at (field_width fix.kind) some from within))
        | inr behind ↦ inr behind
      ]
    ]

-- ---- all bytes

pub all_written : (base rva : ℕ) (layout : Layout) (owner : List ℕ) (fixups : List Fix) (k : ℕ) (old new : List ℕ) → length fixups ≤ k → k ≤ length fixups → ArePatchable (length old) fixups → PatchedTo base rva layout owner fixups k old new None → new ≡ patched_bytes base rva layout owner fixups old
unfolding patched_bytes
all_written base rva layout owner fixups k old new all upto patchable so_far =
    fill_by_all _ new (length old) 0 so_far.len (λ byte lt. by byte (find (covers byte) fixups) refl)
  where
    by : (byte : ℕ) (found : Option Fix) → find (covers byte) fixups ≡ found → slice_index new byte ≡ byte_by base rva layout owner old byte found
    by byte None none =
        so_far.others byte (λ j below. outside_of byte (fix_at fixups j) (patchable.each j no_fix (omega arith)).some (none_found (covers byte) fixups none j no_fix (omega arith)))
    by byte (Some fix) e =
        let found = found_in (covers byte) fixups fix no_fix e in
        let lt = found.1 in
        let there : covers byte (fix_at fixups found.0) ≡ true = ap (covers byte) found.2 ∙ found.3 in
        let within = covers_is byte (fix_at fixups found.0) there in
        subst (λ (each : Fix). slice_index new byte ≡ field_byte base rva layout owner old each byte) found.2
        (so_far.inside found.0 byte (omega arith) (so_far.ranges found.0 (omega arith)) within.1 within.2)
