-- Relocations of which no field shares a byte with that of an earlier one: it is so where their fields, in ascending order, end
-- each before the next begins.
use Rattle.std.proofs.Common.{◌≡◌, ℕ, zero, suc, ◌+◌, ◌<◌, ◌≤◌, length, List, [], ◌∷◌, take, Option, Some, None, Bool, true, false, cond, refl, sym, ap, ◌∙◌, le-ltb, lt-ltb, inl, inr, arith, subst}
use Rattle.std.proofs.lemmas.Bool.{cases_lt, false≢true}
use Rattle.std.proofs.lemmas.List.{take_all, take_more}
use Rattle.std.proofs.lemmas.List.Kept.{AllPairs-cons}
use Rattle.std.proofs.lemmas.List.Sorted.{IsPermutation-keeps, IsPermutation-sym}
use Rattle.std.specs.List.{All, AllPairs, filter}
use Rattle.std.specs.Option.{is_some}
use Rattle.link_base.specs.Refusals.{first_refusal_below}
use Rattle.link_base.proofs.CallerLemmas.{first_below-all_fail}
use Rattle.link_base.proofs.RefusalLemmas.{first_refusal_below-more, first_refusal_below-found}
use Rattle.relocate.specs.declared.fix.Fix.{Fix}
use Rattle.relocate.specs.declared.error.FieldError.{FieldError}
use Rattle.relocate.specs.Field.{field_width, field_end, has_field, shares_byte, no_fix, fix_at}
use Rattle.relocate.specs.FieldFaults.{overlaps_earlier, fault_at, field_fault, RefusesFor}
use Rattle.relocate.specs.Judged.{AreApart, AreTheFields}
use Rattle.relocate.proofs.JudgeLemmas.{EndBelow, end_starts, end_field, absolute_passes, refuses}
use Rattle.relocate.proofs.PatchableLemmas.{AnyTwoParted, any_two, two_of, swap_keeps}
use Rattle.relocate.proofs.FindLemmas.{All-unfilter}

-- ---- the first k relocations have no fault

pub none_yet : (body_len : Option ℕ) (large pdata : Bool) (fixes : List Fix) → first_refusal_below 0 (fault_at body_len large pdata fixes) ≡ None
unfolding first_refusal_below
none_yet body_len large pdata fixes = refl

pub none_more : (body_len : Option ℕ) (large pdata : Bool) (fixes : List Fix) (k : ℕ) → first_refusal_below k (fault_at body_len large pdata fixes) ≡ None → fault_at body_len large pdata fixes k ≡ None → first_refusal_below (k + 1) (fault_at body_len large pdata fixes) ≡ None
none_more body_len large pdata fixes k so_far here = first_refusal_below-more k _ so_far here

pub none_absolute : (body_len : Option ℕ) (large pdata : Bool) (fixes : List Fix) (k : ℕ) → (fix_at fixes k).kind ≡ 0 → first_refusal_below k (fault_at body_len large pdata fixes) ≡ None → first_refusal_below (k + 1) (fault_at body_len large pdata fixes) ≡ None
none_absolute body_len large pdata fixes k absolute so_far =
    none_more body_len large pdata fixes k so_far (absolute_passes body_len large pdata (fix_at fixes k) (overlaps_earlier fixes k) absolute)

pub refused_here : (body_len : Option ℕ) (large pdata : Bool) (fixes : List Fix) (k : ℕ) (error : FieldError) → k < length fixes → first_refusal_below k (fault_at body_len large pdata fixes) ≡ None → fault_at body_len large pdata fixes k ≡ Some error → RefusesFor (field_fault body_len large pdata fixes) error
refused_here body_len large pdata fixes k error lt so_far here = refuses _ error (first_refusal_below-found k (length fixes) _ error lt so_far here)

pub none_at_all : (body_len : Option ℕ) (large pdata : Bool) (fixes : List Fix) (k : ℕ) → length fixes ≤ k → k ≤ length fixes → first_refusal_below k (fault_at body_len large pdata fixes) ≡ None → field_fault body_len large pdata fixes ≡ None
none_at_all body_len large pdata fixes k high low so_far =
    let same : length fixes ≡ k = omega arith in
    ap (λ (n : ℕ). first_refusal_below n (fault_at body_len large pdata fixes)) same ∙ so_far

-- ---- the first k fields are apart

-- they end below an end, which is that of one of them
pub record ApartTo (fields : List Fix) (k end : ℕ) : Type 0 where
  pub below : EndBelow fields k (take k fields) end
  pub ends : 0 < end → (j : ℕ) × (j < k) × (field_end (fix_at fields j) ≡ end)

pub apart_yet : (fields : List Fix) → ApartTo fields 0 0
apart_yet fields = record { below = end_starts fields; ends = λ some. absurd (omega arith) }

pub apart_more : (fields : List Fix) (k end : ℕ) → k < length fields → end ≤ (fix_at fields k).at → ApartTo fields k end → ApartTo fields (k + 1) (field_end (fix_at fields k))
apart_more fields k end lt above so_far =
    record {
      below = subst (λ (front : List Fix). EndBelow fields (k + 1) front (field_end (fix_at fields k))) (sym (take_more fields k no_fix lt)) (end_field fields k (take k fields) end so_far.below above);
      ends = λ some. (k, omega arith, refl);
    }

pub all_apart : (fields : List Fix) (k end : ℕ) → length fields ≤ k → k ≤ length fields → ApartTo fields k end → AreApart fields
all_apart fields k end high low so_far = subst AreApart (take_all k fields high) so_far.below.apart

pub not_apart : (fields : List Fix) (k end : ℕ) → k < length fields → (fix_at fields k).at < end → ApartTo fields k end → AreApart fields → ⊥
not_apart fields k end lt below so_far apart =
    let there = so_far.ends (omega arith) in
    let ends = apart there.0 k no_fix there.1 lt in
    let is = there.2 in
    absurd (omega arith)

-- ---- in the order of the relocations

parted_fields : (fields : List Fix) → AreApart fields → AllPairs (λ first second. shares_byte first second ≡ false) fields
parted_fields fields apart i j d lt within = le-ltb _ _ (let ends = apart i j d lt within in omega arith)

unfilter_pairs : (fixes : List Fix) → AllPairs (λ first second. shares_byte first second ≡ false) (filter has_field fixes)
    → AllPairs (λ first second. has_field first ≡ true → has_field second ≡ true → shares_byte first second ≡ false) fixes
unfilter_pairs [] h = λ i j d lt within. absurd (omega arith)
unfilter_pairs (fix ∷ fixes) h = by (has_field fix) refl (λ rest. unfilter_pairs fixes rest) h
  where
    by : (b : Bool) → has_field fix ≡ b
        → (AllPairs (λ first second. shares_byte first second ≡ false) (filter has_field fixes) → AllPairs (λ first second. has_field first ≡ true → has_field second ≡ true → shares_byte first second ≡ false) fixes)
        → AllPairs (λ first second. shares_byte first second ≡ false) (cond b (fix ∷ filter has_field fixes) (filter has_field fixes))
        → AllPairs (λ first second. has_field first ≡ true → has_field second ≡ true → shares_byte first second ≡ false) (fix ∷ fixes)
    by true kept more h =
        let head : All (λ other. shares_byte fix other ≡ false) (filter has_field fixes) = λ k d within. h zero (suc k) d (omega arith) (omega arith) in
        let all = All-unfilter (λ other. shares_byte fix other ≡ false) has_field fixes head in
        AllPairs-cons (λ (first second : Fix). has_field first ≡ true → has_field second ≡ true → shares_byte first second ≡ false) fix fixes (λ k d within first second. all k d within second) (more (λ i j d lt within. h (suc i) (suc j) d (omega arith) (omega arith)))
    by false left more h = AllPairs-cons (λ (first second : Fix). has_field first ≡ true → has_field second ≡ true → shares_byte first second ≡ false) fix fixes (λ k d within first second. absurd (false≢true (sym left ∙ first))) (more h)

nothing_shared : (first second : Fix) → (has_field first ≡ true → has_field second ≡ true → shares_byte first second ≡ false) → shares_byte first second ≡ false
nothing_shared first second h =
    elim (cases_lt 0 (field_width first.kind)) [
      | inl one ↦ elim (cases_lt 0 (field_width second.kind)) [
        | inl other ↦ h (lt-ltb _ _ one) (lt-ltb _ _ other)
        | inr none ↦ le-ltb _ _ (omega arith)
      ]
      | inr none ↦ le-ltb _ _ (omega arith)
    ]

pub none_overlap : (fixes fields : List Fix) → AreTheFields fixes fields → AreApart fields → (k : ℕ) → k < length fixes → overlaps_earlier fixes k ≡ false
unfolding overlaps_earlier
none_overlap fixes fields permuted apart k lt =
    ap is_some (first_below-all_fail k _ (λ j before. nothing_shared (fix_at fixes j) (fix_at fixes k) (pairs j k no_fix before lt)))
  where
    parted : AnyTwoParted (filter has_field fixes)
    parted = IsPermutation-keeps fields AnyTwoParted (any_two fields (parted_fields fields apart)) (λ l a b in_a in_b. swap_keeps l a b in_a in_b) (filter has_field fixes) (IsPermutation-sym (filter has_field fixes) fields permuted)

    pairs : AllPairs (λ first second. has_field first ≡ true → has_field second ≡ true → shares_byte first second ≡ false) fixes
    pairs = unfilter_pairs fixes (two_of (filter has_field fixes) parted)
