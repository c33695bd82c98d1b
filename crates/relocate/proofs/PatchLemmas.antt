-- Fields patched one after the other, in ascending order.
use Rattle.std.proofs.Common.{◌≡◌, ℕ, ◌+◌, ◌<◌, ◌≤◌, List, length, slice_index, Option, Some, None, Bool, true, false, cond, refl, sym, ap, ◌∙◌, inl, inr, arith, lt-ltb, subst, nat_lt}
use Rattle.std.proofs.lemmas.Bool.{cases_lt, false≢true}
use Rattle.std.proofs.lemmas.List.Elements.{All-from_get_or}
use Rattle.std.specs.List.{All}
use Rattle.link_base.specs.Refusals.{shown}
use Rattle.link_base.specs.declared.kinds.target.RelocKind.TheVariants as kind
use Rattle.relocate.specs.declared.error.FieldError.TheVariants as error
use Rattle.relocate.specs.FieldFaults.{place_faults}
use Rattle.relocate.specs.Judged.{IsPatchable, AreApart, ArePatchable}
use Rattle.relocate.proofs.JudgeLemmas.{shown_none}
use Rattle.relocate.proofs.WriteLemmas.{length-written, written_before, written_behind, written_inside, written_there, held_fits}
use Rattle.link_base.proofs.PutLemmas.{number_at-same}
use Rattle.link_base.specs.Bytes.{number_at}
use Rattle.link_base.proofs.NumberLemmas.{is_below}
use Rattle.link_base.proofs.OptionLemmas.{both_none}
use Rattle.address_layout.specs.declared.layout.Layout.{Layout}
use Rattle.relocate.specs.declared.fix.Fix.{Fix}
use Rattle.relocate.specs.declared.range.RelocRange.{RelocRange}
use Rattle.relocate.specs.Field.{field_width, field_end, no_fix, fix_at}
use Rattle.relocate.specs.PatchedBytes.{field_byte}
use Rattle.relocate.specs.Value.{parts_of, value_of, fits, held, IsOutside, ArePatched}
use Rattle.relocate.specs.Written.{written_over, one_patched, value_outside, least_range}

-- of the first k relocations, the one of the least index whose value is out of range
pub record LeastBelow (base rva : ℕ) (layout : Layout) (owner : List ℕ) (fixups : List Fix) (k : ℕ) (old : List ℕ) (range : RelocRange) : Type 0 where
  pub place : ℕ
  pub there : place < k
  pub index : range.index ≡ (fix_at fixups place).index
  pub value : range.value ≡ value_of base rva layout owner old (fix_at fixups place)
  pub outside : fits base rva layout owner old (fix_at fixups place) ≡ false
  pub least : (j : ℕ) → j < k → fits base rva layout owner old (fix_at fixups j) ≡ false → range.index ≤ (fix_at fixups j).index

abbrev pub RangesTo : ℕ → ℕ → Layout → List ℕ → List Fix → ℕ → List ℕ → Option RelocRange → Type 0
RangesTo base rva layout owner fixups k old None = (j : ℕ) → j < k → fits base rva layout owner old (fix_at fixups j) ≡ true
RangesTo base rva layout owner fixups k old (Some range) = LeastBelow base rva layout owner fixups k old range

-- the first k relocations are patched in the old bytes
pub record PatchedTo (base rva : ℕ) (layout : Layout) (owner : List ℕ) (fixups : List Fix) (k : ℕ) (old new : List ℕ) (least : Option RelocRange) : Type 0 where
  pub len : length new ≡ length old
  pub hold : (j : ℕ) → j < k → fits base rva layout owner old (fix_at fixups j) ≡ true → number_at (field_width (fix_at fixups j).kind) new (fix_at fixups j).at ≡ held (field_width (fix_at fixups j).kind) (value_of base rva layout owner old (fix_at fixups j))
  pub inside : (j byte : ℕ) → j < k → fits base rva layout owner old (fix_at fixups j) ≡ true → (fix_at fixups j).at ≤ byte → byte < field_end (fix_at fixups j) → slice_index new byte ≡ field_byte base rva layout owner old (fix_at fixups j) byte
  pub others : (byte : ℕ) → ((j : ℕ) → j < k → IsOutside byte (fix_at fixups j)) → slice_index new byte ≡ slice_index old byte
  pub ranges : RangesTo base rva layout owner fixups k old least

-- ---- one more

pub within_at : (len : ℕ) (fix : Fix) → IsPatchable len fix → field_end fix ≤ len
unfolding place_faults
within_at len fix patchable =
    let first = both_none (shown (nat_lt 11 fix.kind) (error.Reloc fix.index kind.Kind)) _ patchable.place in
    let second = both_none (shown (nat_lt len (field_end fix)) (error.Reloc fix.index kind.Field)) _ first.1 in
    let none = shown_none (nat_lt len (field_end fix)) (error.Reloc fix.index kind.Field) second.0 in
    elim (cases_lt len (field_end fix)) [
      | inl beyond ↦ absurd (false≢true (sym none ∙ lt-ltb _ _ beyond))
      | inr le ↦ le
    ]

ends_at : (fixups : List Fix) (i j : ℕ) → AreApart fixups → i < j → j < length fixups → field_end (fix_at fixups i) ≤ (fix_at fixups j).at
ends_at fixups i j apart lt below = apart i j no_fix lt below

-- the bytes of a field stay until it is patched itself
untouched : (base rva : ℕ) (layout : Layout) (owner : List ℕ) (fixups : List Fix) (k : ℕ) (old new : List ℕ) (least : Option RelocRange) → k < length fixups → AreApart fixups → PatchedTo base rva layout owner fixups k old new least → number_at (field_width (fix_at fixups k).kind) new (fix_at fixups k).at ≡ number_at (field_width (fix_at fixups k).kind) old (fix_at fixups k).at
untouched base rva layout owner fixups k old new least lt apart so_far =
    number_at-same (field_width (fix_at fixups k).kind) (fix_at fixups k).at new old (λ byte low high. so_far.others byte (λ j before. let ends = ends_at fixups j k apart before lt in inr (omega arith)))

same_parts : (base rva : ℕ) (layout : Layout) (owner : List ℕ) (fix : Fix) (old new : List ℕ) → number_at (field_width fix.kind) new fix.at ≡ number_at (field_width fix.kind) old fix.at → parts_of base rva layout owner new fix ≡ parts_of base rva layout owner old fix
unfolding parts_of
same_parts base rva layout owner fix old new e = rw e refl

patched_fits : (base rva : ℕ) (layout : Layout) (owner : List ℕ) (fix : Fix) (old new : List ℕ) → parts_of base rva layout owner new fix ≡ parts_of base rva layout owner old fix → fits base rva layout owner old fix ≡ true
    → (one_patched base rva layout owner fix new ≡ written_over new fix (held (field_width fix.kind) (value_of base rva layout owner old fix))) × (value_outside base rva layout owner fix new ≡ None)
unfolding one_patched value_outside
patched_fits base rva layout owner fix old new e fitting = (rw (e, fitting) refl, rw (e, fitting) refl)

patched_not : (base rva : ℕ) (layout : Layout) (owner : List ℕ) (fix : Fix) (old new : List ℕ) → parts_of base rva layout owner new fix ≡ parts_of base rva layout owner old fix → fits base rva layout owner old fix ≡ false
    → (one_patched base rva layout owner fix new ≡ new) × (value_outside base rva layout owner fix new ≡ Some (value_of base rva layout owner old fix))
unfolding one_patched value_outside
patched_not base rva layout owner fix old new e misfit = (rw (e, misfit) refl, rw (e, misfit) refl)

-- ---- the ranges

keeps_range : (base rva : ℕ) (layout : Layout) (owner : List ℕ) (fixups : List Fix) (k : ℕ) (old : List ℕ) (least : Option RelocRange) → fits base rva layout owner old (fix_at fixups k) ≡ true → RangesTo base rva layout owner fixups k old least → RangesTo base rva layout owner fixups (k + 1) old (least_range least (fix_at fixups k).index None)
unfolding least_range
keeps_range base rva layout owner fixups k old None fitting so_far =
    λ j lt. elim (cases_lt j k) [
      | inl before ↦ so_far j before
      | inr here ↦ let same : j ≡ k = omega arith in ap (λ (i : ℕ). fits base rva layout owner old (fix_at fixups i)) same ∙ fitting
    ]
keeps_range base rva layout owner fixups k old (Some range) fitting so_far =
    record {
      place = so_far.place;
      there = let lt = so_far.there in omega arith;
      index = so_far.index;
      value = so_far.value;
      outside = so_far.outside;
      least = λ j lt misfit. elim (cases_lt j k) [
        | inl before ↦ so_far.least j before misfit
        | inr here ↦ let same : j ≡ k = omega arith in
            absurd (false≢true (sym (sym (ap (λ (i : ℕ). fits base rva layout owner old (fix_at fixups i)) same) ∙ misfit) ∙ fitting))
      ];
    }

-- a value that is out of range, and the index misfit lower one has
new_range : (base rva : ℕ) (layout : Layout) (owner : List ℕ) (fixups : List Fix) (k : ℕ) (old : List ℕ) → fits base rva layout owner old (fix_at fixups k) ≡ false → ((j : ℕ) → j < k → fits base rva layout owner old (fix_at fixups j) ≡ false → (fix_at fixups k).index ≤ (fix_at fixups j).index)
    → LeastBelow base rva layout owner fixups (k + 1) old (record { index = (fix_at fixups k).index; value = value_of base rva layout owner old (fix_at fixups k) })
new_range base rva layout owner fixups k old misfit lower =
    record {
      place = k;
      there = omega arith;
      index = refl;
      value = refl;
      outside = misfit;
      least = λ j lt other. elim (cases_lt j k) [
        | inl before ↦ lower j before other
        | inr here ↦ let same : j ≡ k = omega arith in let e = ap (λ (i : ℕ). (fix_at fixups i).index) same in omega arith
      ];
    }

chosen_range : (base rva : ℕ) (layout : Layout) (owner : List ℕ) (fixups : List Fix) (k : ℕ) (old : List ℕ) (range : RelocRange) (lower : Bool) → nat_lt (fix_at fixups k).index range.index ≡ lower → fits base rva layout owner old (fix_at fixups k) ≡ false → LeastBelow base rva layout owner fixups k old range
    → RangesTo base rva layout owner fixups (k + 1) old (cond lower (Some (record { index = (fix_at fixups k).index; value = value_of base rva layout owner old (fix_at fixups k) })) (Some range))
chosen_range base rva layout owner fixups k old range true e misfit so_far =
    new_range base rva layout owner fixups k old misfit (λ j before other. let le = so_far.least j before other in let lt = is_below _ _ e in omega arith)
chosen_range base rva layout owner fixups k old range false e misfit so_far =
    record {
      place = so_far.place;
      there = let lt = so_far.there in omega arith;
      index = so_far.index;
      value = so_far.value;
      outside = so_far.outside;
      least = λ j lt other. elim (cases_lt j k) [
        | inl before ↦ so_far.least j before other
        | inr here ↦ let same : j ≡ k = omega arith in let i = ap (λ (i : ℕ). (fix_at fixups i).index) same in let le = not_below _ _ e in omega arith
      ];
    }
  where
    not_below : (a b : ℕ) → nat_lt a b ≡ false → b ≤ a
    not_below a b e = elim (cases_lt a b) [ inl lt ↦ absurd (false≢true (sym e ∙ lt-ltb _ _ lt)) | inr le ↦ le ]

takes_range : (base rva : ℕ) (layout : Layout) (owner : List ℕ) (fixups : List Fix) (k : ℕ) (old : List ℕ) (least : Option RelocRange) → fits base rva layout owner old (fix_at fixups k) ≡ false → RangesTo base rva layout owner fixups k old least → RangesTo base rva layout owner fixups (k + 1) old (least_range least (fix_at fixups k).index (Some (value_of base rva layout owner old (fix_at fixups k))))
unfolding least_range
takes_range base rva layout owner fixups k old None misfit so_far =
    new_range base rva layout owner fixups k old misfit (λ j before other. absurd (false≢true (sym other ∙ so_far j before)))
takes_range base rva layout owner fixups k old (Some range) misfit so_far =
    chosen_range base rva layout owner fixups k old range (nat_lt (fix_at fixups k).index range.index) refl misfit so_far

-- ---- the step

step_written : (base rva : ℕ) (layout : Layout) (owner : List ℕ) (fixups : List Fix) (k : ℕ) (old new : List ℕ) (least : Option RelocRange) → k < length fixups → ArePatchable (length old) fixups → fits base rva layout owner old (fix_at fixups k) ≡ true → PatchedTo base rva layout owner fixups k old new least
    → PatchedTo base rva layout owner fixups (k + 1) old (written_over new (fix_at fixups k) (held (field_width (fix_at fixups k).kind) (value_of base rva layout owner old (fix_at fixups k)))) (least_range least (fix_at fixups k).index None)
step_written base rva layout owner fixups k old new least lt patchable fitting so_far =
    let number = held (field_width (fix_at fixups k).kind) (value_of base rva layout owner old (fix_at fixups k)) in
    let len = so_far.len in
    let end = within_at (length old) (fix_at fixups k) (patchable.each k no_fix lt) in
    let within : field_end (fix_at fixups k) ≤ length new = omega arith in
    record {
      len = length-written new (fix_at fixups k) number within ∙ so_far.len;
      hold = λ j below fit. elim (cases_lt j k) [
        | inl before ↦
            let ends = ends_at fixups j k patchable.apart before lt in
            number_at-same (field_width (fix_at fixups j).kind) (fix_at fixups j).at (written_over new (fix_at fixups k) number) new (λ byte low high. written_before new (fix_at fixups k) number byte within (omega arith))
            ∙ so_far.hold j before fit
        | inr here ↦ let same : k ≡ j = omega arith in
            subst (λ (i : ℕ). number_at (field_width (fix_at fixups i).kind) (written_over new (fix_at fixups k) number) (fix_at fixups i).at ≡ held (field_width (fix_at fixups i).kind) (value_of base rva layout owner old (fix_at fixups i))) same
            (written_there new (fix_at fixups k) number within (held_fits (fix_at fixups k).kind (value_of base rva layout owner old (fix_at fixups k))))
      ];
      inside = λ j byte below fit low high. elim (cases_lt j k) [
        | inl before ↦
            let ends = ends_at fixups j k patchable.apart before lt in
            written_before new (fix_at fixups k) number byte within (omega arith) ∙ so_far.inside j byte before fit low high
        | inr here ↦ let same : k ≡ j = omega arith in
            let at_same = ap (λ (i : ℕ). (fix_at fixups i).at) same in
            let end_same = ap (λ (i : ℕ). field_end (fix_at fixups i)) same in
            subst (λ (i : ℕ). slice_index (written_over new (fix_at fixups k) number) byte ≡ field_byte base rva layout owner old (fix_at fixups i) byte) same
            (written_inside new (fix_at fixups k) number byte within (omega (arith, at_same)) (omega (arith, end_same)))
      ];
      others = λ byte outside.
          elim (outside k (omega arith)) [
            | inl before ↦ written_before new (fix_at fixups k) number byte within before
            | inr behind ↦ written_behind new (fix_at fixups k) number byte within behind
          ]
          ∙ so_far.others byte (λ j below. outside j (omega arith));
      ranges = keeps_range base rva layout owner fixups k old least fitting so_far.ranges;
    }

step_left : (base rva : ℕ) (layout : Layout) (owner : List ℕ) (fixups : List Fix) (k : ℕ) (old new : List ℕ) (least : Option RelocRange) → fits base rva layout owner old (fix_at fixups k) ≡ false → PatchedTo base rva layout owner fixups k old new least
    → PatchedTo base rva layout owner fixups (k + 1) old new (least_range least (fix_at fixups k).index (Some (value_of base rva layout owner old (fix_at fixups k))))
step_left base rva layout owner fixups k old new least misfit so_far =
    record {
      len = so_far.len;
      hold = λ j below fit. elim (cases_lt j k) [
        | inl before ↦ so_far.hold j before fit
        | inr here ↦ let same : k ≡ j = omega arith in
            absurd (false≢true (sym misfit ∙ (ap (λ (i : ℕ). fits base rva layout owner old (fix_at fixups i)) same ∙ fit)))
      ];
      inside = λ j byte below fit low high. elim (cases_lt j k) [
        | inl before ↦ so_far.inside j byte before fit low high
        | inr here ↦ let same : k ≡ j = omega arith in
            absurd (false≢true (sym misfit ∙ (ap (λ (i : ℕ). fits base rva layout owner old (fix_at fixups i)) same ∙ fit)))
      ];
      others = λ byte outside. so_far.others byte (λ j below. outside j (omega arith));
      ranges = takes_range base rva layout owner fixups k old least misfit so_far.ranges;
    }

pub step : (base rva : ℕ) (layout : Layout) (owner : List ℕ) (fixups : List Fix) (k : ℕ) (old new : List ℕ) (least : Option RelocRange) → k < length fixups → ArePatchable (length old) fixups → PatchedTo base rva layout owner fixups k old new least
    → PatchedTo base rva layout owner fixups (k + 1) old (one_patched base rva layout owner (fix_at fixups k) new) (least_range least (fix_at fixups k).index (value_outside base rva layout owner (fix_at fixups k) new))
step base rva layout owner fixups k old new least lt patchable so_far =
    by (fits base rva layout owner old (fix_at fixups k)) refl
  where
    parts : parts_of base rva layout owner new (fix_at fixups k) ≡ parts_of base rva layout owner old (fix_at fixups k)
    parts = same_parts base rva layout owner (fix_at fixups k) old new (untouched base rva layout owner fixups k old new least lt patchable.apart so_far)

    by : (fit : Bool) → fits base rva layout owner old (fix_at fixups k) ≡ fit → PatchedTo base rva layout owner fixups (k + 1) old (one_patched base rva layout owner (fix_at fixups k) new) (least_range least (fix_at fixups k).index (value_outside base rva layout owner (fix_at fixups k) new))
    by true fitting =
        let both = patched_fits base rva layout owner (fix_at fixups k) old new parts fitting in
        let bytes = both.0 in
        let value = both.1 in
        rw (bytes, value) (step_written base rva layout owner fixups k old new least lt patchable fitting so_far)
    by false misfit =
        let both = patched_not base rva layout owner (fix_at fixups k) old new parts misfit in
        let bytes = both.0 in
        let value = both.1 in
        rw (bytes, value) (step_left base rva layout owner fixups k old new least misfit so_far)

-- ---- the end

pub all_in_range : (base rva : ℕ) (layout : Layout) (owner : List ℕ) (fixups : List Fix) (k : ℕ) (old new : List ℕ) → length fixups ≤ k → PatchedTo base rva layout owner fixups k old new None → All (λ fix. fits base rva layout owner old fix ≡ true) fixups
all_in_range base rva layout owner fixups k old new all so_far =
    All-from_get_or (λ fix. fits base rva layout owner old fix ≡ true) fixups no_fix (λ i below. so_far.ranges i (omega arith))

pub all_patched : (base rva : ℕ) (layout : Layout) (owner : List ℕ) (fixups : List Fix) (k : ℕ) (old new : List ℕ) → length fixups ≤ k → k ≤ length fixups → PatchedTo base rva layout owner fixups k old new None → ArePatched base rva layout owner fixups old new
all_patched base rva layout owner fixups k old new all upto so_far =
    record {
      len = so_far.len;
      hold = All-from_get_or (λ fix. number_at (field_width fix.kind) new fix.at ≡ held (field_width fix.kind) (value_of base rva layout owner old fix)) fixups no_fix (λ i below. so_far.hold i (omega arith) (so_far.ranges i (omega arith)));
      others = λ byte outside. so_far.others byte (λ j below. outside j no_fix (omega arith));
    }
