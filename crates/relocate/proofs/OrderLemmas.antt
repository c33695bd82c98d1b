-- Relocations in the order of their indexes, and their fields in ascending order, patch the same bytes and have the same
-- first value that does not fit.
use Rattle.std.proofs.Common.{◌≡◌, ℕ, ◌<◌, ◌≤◌, ℤ, List, length, get_or, Some, None, Bool, true, false, refl, sym, ap, ◌∙◌, inl, inr, arith}
use Rattle.std.proofs.lemmas.Bool.{cases_lt}
use Rattle.std.proofs.lemmas.List.Elements.{All-from_get_or, All-filter, filter_passes}
use Rattle.std.proofs.lemmas.List.Sorted.{IsPermutation-sym, All-permutation}
use Rattle.std.specs.List.{All, find, filter}
use Rattle.link_base.proofs.RefusalLemmas.{first_refusal_below-found, none_below}
use Rattle.address_layout.specs.declared.layout.Layout.{Layout}
use Rattle.relocate.specs.declared.fix.Fix.{Fix}
use Rattle.relocate.specs.declared.range.RelocRange.{RelocRange}
use Rattle.relocate.specs.Field.{has_field, no_fix, fix_at}
use Rattle.relocate.specs.Judged.{AreApart, AreTheFields, ArePatchable}
use Rattle.relocate.specs.Value.{value_of, fits, IsLeastOutside}
use Rattle.relocate.specs.PatchedBytes.{covers, byte_by, patched_byte, patched_bytes, range_of, range_fault, AreNumbered}
use Rattle.relocate.proofs.FindLemmas.{PassesOnce, find-filter, find-permutation, All-unfilter, map_range_same}
use Rattle.relocate.proofs.PatchedLemmas.{covers_is}

-- ---- bytes

pub covered_once : (fixups : List Fix) (byte : ℕ) → AreApart fixups → PassesOnce (covers byte) fixups
unfolding PassesOnce
covered_once fixups byte apart i j d in_i in_j first second =
    let a = covers_is byte (get_or fixups i d) first in
    let b = covers_is byte (get_or fixups j d) second in
    elim (cases_lt i j) [
      | inl before ↦ let ends = apart i j d before in_j in let low = b.1 in let high = a.2 in absurd (omega arith)
      | inr from ↦ elim (cases_lt j i) [
        | inl after ↦ let ends = apart j i d after in_i in let low = a.1 in let high = b.2 in absurd (omega arith)
        | inr upto ↦ omega arith
      ]
    ]

pub bytes_in_any_order : (base rva : ℕ) (layout : Layout) (owner : List ℕ) (fixes fixups : List Fix) (bytes : List ℕ) (len : ℕ) → AreTheFields fixes fixups → ArePatchable len fixups
    → patched_bytes base rva layout owner fixups bytes ≡ patched_bytes base rva layout owner fixes bytes
unfolding patched_bytes
bytes_in_any_order base rva layout owner fixes fixups bytes len fields patchable =
    map_range_same (patched_byte base rva layout owner fixups bytes) (patched_byte base rva layout owner fixes bytes) (length bytes) (λ byte lt. ap (byte_by base rva layout owner bytes byte) (same byte))
  where
    same : (byte : ℕ) → find (covers byte) fixups ≡ find (covers byte) fixes
    same byte =
        find-permutation (covers byte) (filter has_field fixes) fixups fields (covered_once fixups byte patchable.apart)
        ∙ find-filter (covers byte) has_field fixes (λ fix covered. (covers_is byte fix covered).0)

-- ---- a field among the relocations, and a relocation among the fields

unfoldable pub IsAmong : List Fix → Fix → Type 0
IsAmong fixes fix = (k : ℕ) × (k < length fixes) × (fix_at fixes k ≡ fix)

each_among : (fixes : List Fix) → All (IsAmong fixes) fixes
unfolding IsAmong
each_among fixes = All-from_get_or (IsAmong fixes) fixes no_fix (λ k lt. (k, lt, refl))

pub field_among : (fixes fixups : List Fix) (place : ℕ) → AreTheFields fixes fixups → place < length fixups → (has_field (fix_at fixups place) ≡ true) × (IsAmong fixes (fix_at fixups place))
field_among fixes fixups place fields lt = (
  All-permutation (λ fix. has_field fix ≡ true) (filter has_field fixes) fixups fields (filter_passes has_field fixes) place no_fix lt,
  All-permutation (IsAmong fixes) (filter has_field fixes) fixups fields (All-filter has_field (IsAmong fixes) fixes (each_among fixes)) place no_fix lt,
)

pub among_fields : (P : Fix → Type 0) (fixes fixups : List Fix) (k : ℕ) → AreTheFields fixes fixups → All P fixups → k < length fixes → has_field (fix_at fixes k) ≡ true → P (fix_at fixes k)
among_fields P fixes fixups k fields all lt some =
    All-unfilter P has_field fixes (All-permutation P fixups (filter has_field fixes) (IsPermutation-sym (filter has_field fixes) fixups fields) all) k no_fix lt some

-- ---- ranges

-- no range where the value fits if there is a field
pub no_range : (base rva : ℕ) (layout : Layout) (owner bytes : List ℕ) (fix : Fix) → (has_field fix ≡ true → fits base rva layout owner bytes fix ≡ true) → range_of base rva layout owner bytes fix ≡ None
no_range base rva layout owner bytes fix fitting = by (has_field fix) refl
  where
    by : (b : Bool) → has_field fix ≡ b → range_of base rva layout owner bytes fix ≡ None
    by true some = let fit = fitting some in rw (some, fit) refl
    by false nothing = rw nothing refl

some_range : (base rva : ℕ) (layout : Layout) (owner bytes : List ℕ) (fix : Fix) (range : RelocRange) → has_field fix ≡ true → fits base rva layout owner bytes fix ≡ false → range.index ≡ fix.index → range.value ≡ value_of base rva layout owner bytes fix → range_of base rva layout owner bytes fix ≡ Some range
some_range base rva layout owner bytes fix range some misfit index value = rw (some, misfit) (ap Some (made range fix.index (value_of base rva layout owner bytes fix) index value))
  where
    made : (range : RelocRange) (index : ℕ) (value : ℤ) → range.index ≡ index → range.value ≡ value → record { index = index; value = value } ≡ range
    made range index value e f = rw (sym e, sym f) refl

pub range_in_any_order : (base rva : ℕ) (layout : Layout) (owner : List ℕ) (fixes fixups : List Fix) (bytes : List ℕ) (range : RelocRange) → AreTheFields fixes fixups → AreNumbered fixes → IsLeastOutside base rva layout owner fixups bytes range
    → range_fault base rva layout owner fixes bytes ≡ Some range
unfolding range_fault IsAmong
range_in_any_order base rva layout owner fixes fixups bytes range fields numbered least =
    let field = field_among fixes fixups least.place fields least.there in
    let among = field.1 in
    let k = among.0 in
    let same = among.2 in
    let here : range_of base rva layout owner bytes (fix_at fixes k) ≡ Some range =
    ap (range_of base rva layout owner bytes) same ∙ some_range base rva layout owner bytes (fix_at fixups least.place) range field.0 least.outside least.index least.value in
    let index : range.index ≡ k = least.index ∙ ap (λ (fix : Fix). fix.index) (sym same) ∙ numbered k among.1 in
    first_refusal_below-found k (length fixes) (λ j. range_of base rva layout owner bytes (fix_at fixes j)) range among.1
    (none_below k (λ j. range_of base rva layout owner bytes (fix_at fixes j)) (λ j lt. no_range base rva layout owner bytes (fix_at fixes j) (λ some. earlier j k among.1 index lt some (fits base rva layout owner bytes (fix_at fixes j)) refl)))
    here
  where
    lower : All (λ fix. fits base rva layout owner bytes fix ≡ false → range.index ≤ fix.index) fixups
    lower = All-from_get_or (λ fix. fits base rva layout owner bytes fix ≡ false → range.index ≤ fix.index) fixups no_fix (λ i lt misfit. least.least i lt misfit)

    earlier : (j k : ℕ) → k < length fixes → range.index ≡ k → j < k → has_field (fix_at fixes j) ≡ true → (fit : Bool) → fits base rva layout owner bytes (fix_at fixes j) ≡ fit → fit ≡ true
    earlier j k below index lt some true fitting = refl
    earlier j k below index lt some false misfit =
        let le = among_fields (λ fix. fits base rva layout owner bytes fix ≡ false → range.index ≤ fix.index) fixes fixups j fields lower (omega arith) some misfit in
        let at_j = numbered j (omega arith) in
        absurd (omega arith)

pub no_range_in_any_order : (base rva : ℕ) (layout : Layout) (owner : List ℕ) (fixes fixups : List Fix) (bytes : List ℕ) → AreTheFields fixes fixups → All (λ fix. fits base rva layout owner bytes fix ≡ true) fixups
    → range_fault base rva layout owner fixes bytes ≡ None
unfolding range_fault
no_range_in_any_order base rva layout owner fixes fixups bytes fields fitting =
    none_below (length fixes) (λ k. range_of base rva layout owner bytes (fix_at fixes k))
    (λ k lt. no_range base rva layout owner bytes (fix_at fixes k) (λ some. among_fields (λ fix. fits base rva layout owner bytes fix ≡ true) fixes fixups k fields fitting lt some))
