-- Relocations that have no fault can be patched.
use Rattle.std.proofs.Common.{◌≡◌, ℕ, zero, suc, ◌+◌, ◌<◌, ◌≤◌, length, List, [], ◌∷◌, Option, option_map, ◌&&◌, not, Some, None, Bool, true, false, refl, sym, ap, ◌∙◌, eqb, le-ltb, lt-ltb, inl, inr, ◌⊎◌, arith, get_or, nat_lt, nat_le, min, max, subst}
use Rattle.std.proofs.lemmas.Bool.{cases_lt, false≢true}
use Rattle.std.proofs.lemmas.Bool.Decides.{nat_tests, eqb_tells}
use Rattle.std.proofs.lemmas.List.{get_or_default}
use Rattle.std.proofs.lemmas.List.Edits.{swapped_from_swap, length-swap}
use Rattle.std.proofs.lemmas.List.Elements.{All-filter, filter_passes, All-from_get_or}
use Rattle.std.proofs.lemmas.List.Kept.{AllPairs-filter}
use Rattle.std.proofs.lemmas.List.Sorted.{IsPermutation-keeps, All-permutation}
use Rattle.std.specs.List.{All, AllPairs, filter, swap}
use Rattle.std.specs.List.Sorted.{IsPermutation, IsNonDecreasingBy}
use Rattle.link_base.specs.Refusals.{shown, first_standing, first_refusal_below}
use Rattle.relocate.specs.declared.fix.Fix.{Fix}
use Rattle.relocate.specs.declared.error.FieldError.{FieldError}
use Rattle.relocate.specs.declared.error.FieldError.TheVariants as error
use Rattle.link_base.specs.declared.kinds.target.TargetFault.TheVariants as target
use Rattle.link_base.specs.declared.kinds.target.RelocKind.TheVariants as kind
use Rattle.link_base.proofs.RefusalLemmas.{neither_stands}
use Rattle.link_base.proofs.OptionLemmas.{both_none}
use Rattle.relocate.specs.Field.{field_width, field_end, has_field, ranges_meet, shares_byte, no_fix, fix_at}
use Rattle.relocate.specs.FieldFaults.{own_fault, is_absolute, is_image_base, place_faults, target_faults, overlaps_earlier, fault_of, fault_at, field_fault}
use Rattle.relocate.specs.Judged.{IsPatchable, AreApart, ArePatchable, size_of}
use Rattle.relocate.proofs.JudgeLemmas.{absolute_width, passes}
use Rattle.relocate.proofs.TakenLemmas.{parted_from}

-- none has a fault: each has none
pub none_each : {A : Type 0} (n : ℕ) (fault : ℕ → Option A) → first_refusal_below n fault ≡ None → (k : ℕ) → k < n → fault k ≡ None
unfolding first_refusal_below
none_each zero fault none k lt = absurd (omega arith)
none_each (suc n) fault none k lt =
    let both = both_none (first_refusal_below n fault) (fault n) none in
    elim (cases_lt k n) [
      | inl below ↦ none_each n fault both.0 k below
      | inr above ↦ let same : k ≡ n = omega arith in ap fault same ∙ both.1
    ]

-- ---- each alone

sized : (body_len : Option ℕ) (fix : Fix) → first_standing (place_faults body_len fix) ≡ None → first_standing (place_faults (Some (size_of body_len)) fix) ≡ None
unfolding place_faults
sized (Some len) fix e = e
sized None fix e =
    let first = both_none (shown (nat_lt 11 fix.kind) (error.Reloc fix.index kind.Kind)) _ e in
    let bad : Some (error.Reloc fix.index kind.Field) ≡ None = first.1 in
    absurd cc

no_more : (a b c : Bool) (x y : FieldError) → first_standing (shown (a && (b && false)) x ∷ shown (false && c) y ∷ []) ≡ None
no_more true true c x y = refl
no_more true false c x y = refl
no_more false b c x y = refl

suits : (large pdata : Bool) (fix : Fix) → first_standing (target_faults large pdata fix) ≡ None → first_standing (target_faults false false fix) ≡ None
unfolding target_faults
suits large pdata fix e =
    let own = both_none (option_map (error.Target fix.index) (own_fault fix.target)) _ e in
    let relative = both_none (shown (nat_le 3 fix.kind && is_absolute fix.target) (error.Target fix.index target.AbsRelative)) _ own.1 in
    let section = both_none (shown (nat_le 10 fix.kind && is_image_base fix.target) (error.Target fix.index target.NoSection)) _ relative.1 in
    neither_stands _ _ own.0 (neither_stands _ _ relative.0 (neither_stands _ _ section.0 (no_more (eqb fix.kind 2) (not (is_absolute fix.target)) (not (eqb fix.kind 3)) (error.Target fix.index target.NeedsLow) (error.Target fix.index target.PdataField))))

pub with_field : (fix : Fix) → has_field fix ≡ true → fix.kind ≡ 0 → ⊥
with_field fix e absolute = false≢true (sym (ap (λ (w : ℕ). nat_lt 0 w) (absolute_width fix.kind absolute)) ∙ e)

wide : (w : ℕ) → nat_lt 0 w ≡ true → 0 < w
wide w e = grind (arith, nat_tests)

patchable_at : (body_len : Option ℕ) (large pdata : Bool) (fix : Fix) (overlaps : Bool) → fault_of body_len large pdata fix overlaps ≡ None → has_field fix ≡ true → IsPatchable (size_of body_len) fix
patchable_at body_len large pdata fix overlaps none e =
    let passed = passes body_len large pdata fix overlaps none (with_field fix e) in
    record { some = wide (field_width fix.kind) e; place = sized body_len fix passed.place; target = suits large pdata fix passed.target }

each_patchable : (body_len : Option ℕ) (large pdata : Bool) (fixes : List Fix) → field_fault body_len large pdata fixes ≡ None → All (IsPatchable (size_of body_len)) (filter has_field fixes)
each_patchable body_len large pdata fixes none k d lt =
    All-filter has_field (λ fix. has_field fix ≡ true → IsPatchable (size_of body_len) fix) fixes
    (All-from_get_or (λ fix. has_field fix ≡ true → IsPatchable (size_of body_len) fix) fixes no_fix (λ i below some. patchable_at body_len large pdata (fix_at fixes i) (overlaps_earlier fixes i) (none_each _ (fault_at body_len large pdata fixes) none i below) some))
    k d lt (filter_passes has_field fixes k d lt)

-- ---- apart

meets_nothing : (start end place : ℕ) → ranges_meet start end place (place + 0) ≡ false
meets_nothing start end place = le-ltb _ _ (omega arith)

empty_parted : (first second : Fix) → second.kind ≡ 0 → shares_byte first second ≡ false
empty_parted first second absolute = rw (absolute_width second.kind absolute) (meets_nothing first.at (field_end first) second.at)

parted_at : (body_len : Option ℕ) (large pdata : Bool) (fixes : List Fix) (i j : ℕ) → fault_at body_len large pdata fixes j ≡ None → i < j → shares_byte (fix_at fixes i) (fix_at fixes j) ≡ false
parted_at body_len large pdata fixes i j none lt =
    elim (eqb_tells (fix_at fixes j).kind 0) [
      | inl absolute ↦ empty_parted (fix_at fixes i) (fix_at fixes j) absolute.1
      | inr some ↦ parted_from fixes j i (passes body_len large pdata (fix_at fixes j) (overlaps_earlier fixes j) none some.1).apart lt
    ]

each_parted : (body_len : Option ℕ) (large pdata : Bool) (fixes : List Fix) → field_fault body_len large pdata fixes ≡ None → AllPairs (λ first second. shares_byte first second ≡ false) fixes
each_parted body_len large pdata fixes none i j d lt below =
    let first = get_or_default fixes i d no_fix (omega arith) in
    let second = get_or_default fixes j d no_fix below in
    subst (λ (fix : Fix). shares_byte fix (get_or fixes j d) ≡ false) (sym first)
    (subst (λ (fix : Fix). shares_byte (fix_at fixes i) fix ≡ false) (sym second)
    (parted_at body_len large pdata fixes i j (none_each _ (fault_at body_len large pdata fixes) none j below) lt))

-- ---- in another order

met_either_way : (a b c d : ℕ) → ranges_meet a b c d ≡ false → ranges_meet c d a b ≡ false
met_either_way a b c d h =
    elim (cases_lt (max a c) (min b d)) [
      | inl lt ↦ absurd (false≢true (sym h ∙ lt-ltb _ _ lt))
      | inr le ↦ le-ltb _ _ (omega arith)
    ]

pub AnyTwoParted : List Fix → Type 0
AnyTwoParted fixes = (i j : ℕ) (d : Fix) → (i ≡ j → ⊥) → i < length fixes → j < length fixes → shares_byte (get_or fixes i d) (get_or fixes j d) ≡ false

pub any_two : (fixes : List Fix) → AllPairs (λ first second. shares_byte first second ≡ false) fixes → AnyTwoParted fixes
unfolding AnyTwoParted
any_two fixes pairs i j d apart low high =
    elim (cases_lt i j) [
      | inl before ↦ pairs i j d before high
      | inr after ↦
          let lt : j < i = omega arith in
          met_either_way (get_or fixes j d).at (field_end (get_or fixes j d)) (get_or fixes i d).at (field_end (get_or fixes i d)) (pairs j i d lt low)
    ]

pub two_of : (fixes : List Fix) → AnyTwoParted fixes → AllPairs (λ first second. shares_byte first second ≡ false) fixes
unfolding AnyTwoParted
two_of fixes parted i j d lt within = parted i j d (omega arith) (omega arith) within

-- where the element at m of a list with the elements at a and b exchanged stood
Moved : ℕ → ℕ → ℕ → ℕ → Type 0
Moved a b m n = ((m ≡ a) × (n ≡ b)) ⊎ (((m ≡ a → ⊥) × (m ≡ b) × (n ≡ a)) ⊎ ((m ≡ a → ⊥) × (m ≡ b → ⊥) × (n ≡ m)))

moved_once : (a b m n p q : ℕ) → Moved a b m n → Moved a b p q → (m ≡ p → ⊥) → n ≡ q → ⊥
unfolding Moved
moved_once a b m n p q (inl x) (inl y) apart same = apart (omega arith)
moved_once a b m n p q (inl x) (inr (inl y)) apart same = y.0 (omega arith)
moved_once a b m n p q (inl x) (inr (inr y)) apart same = y.1 (omega arith)
moved_once a b m n p q (inr (inl x)) (inl y) apart same = x.0 (omega arith)
moved_once a b m n p q (inr (inl x)) (inr (inl y)) apart same = apart (omega arith)
moved_once a b m n p q (inr (inl x)) (inr (inr y)) apart same = y.0 (omega arith)
moved_once a b m n p q (inr (inr x)) (inl y) apart same = x.1 (omega arith)
moved_once a b m n p q (inr (inr x)) (inr (inl y)) apart same = x.0 (omega arith)
moved_once a b m n p q (inr (inr x)) (inr (inr y)) apart same = apart (omega arith)

moved : (fixes : List Fix) (a b m : ℕ) (d : Fix) → a < length fixes → b < length fixes → m < length fixes → (n : ℕ) × (n < length fixes) × (get_or (swap fixes a b) m d ≡ get_or fixes n d) × Moved a b m n
unfolding Moved
moved fixes a b m d in_a in_b in_m =
    let swapped = swapped_from_swap fixes (swap fixes a b) a b d in_a in_b refl in
    elim (eqb_tells m a) [
      | inl first ↦ (b, in_b, ap (λ (k : ℕ). get_or (swap fixes a b) k d) first.1 ∙ swapped.0, inl (first.1, refl))
      | inr other ↦ elim (eqb_tells m b) [
        | inl second ↦ (a, in_a, ap (λ (k : ℕ). get_or (swap fixes a b) k d) second.1 ∙ swapped.1, inr (inl (other.1, second.1, refl)))
        | inr neither ↦ (m, in_m, swapped.2 m other.1 neither.1, inr (inr (other.1, neither.1, refl)))
      ]
    ]

pub swap_keeps : (fixes : List Fix) (a b : ℕ) → a < length fixes → b < length fixes → AnyTwoParted fixes → AnyTwoParted (swap fixes a b)
unfolding AnyTwoParted
swap_keeps fixes a b in_a in_b parted i j d apart low high =
    let len = length-swap fixes a b in
    let first = moved fixes a b i d in_a in_b (omega arith) in
    let second = moved fixes a b j d in_a in_b (omega arith) in
    subst (λ (fix : Fix). shares_byte fix (get_or (swap fixes a b) j d) ≡ false) (sym first.2)
    (subst (λ (fix : Fix). shares_byte (get_or fixes first.0 d) fix ≡ false) (sym second.2)
    (parted first.0 second.0 d (moved_once a b i first.0 j second.0 first.3 second.3 apart) first.1 second.1))

ends_before : (a v b w : ℕ) → a ≤ b → 0 < w → ranges_meet a (a + v) b (b + w) ≡ false → a + v ≤ b
ends_before a v b w le some h =
    elim (cases_lt b (a + v)) [
      | inl lt ↦ absurd (false≢true (sym h ∙ lt-ltb _ _ (omega arith)))
      | inr ge ↦ ge
    ]

apart_sorted : (fixes : List Fix) → IsNonDecreasingBy (λ fix. fix.at) fixes → AnyTwoParted fixes → All (λ fix. 0 < field_width fix.kind) fixes → AreApart fixes
unfolding AnyTwoParted
apart_sorted fixes ascend parted some i j d lt below =
    ends_before (get_or fixes i d).at (field_width (get_or fixes i d).kind) (get_or fixes j d).at (field_width (get_or fixes j d).kind)
    (ascend i j d (omega arith) below) (some j d below) (parted i j d (omega arith) (omega arith) below)

-- ---- all of them

pub patchable_ascending : (body_len : Option ℕ) (large pdata : Bool) (fixes fields : List Fix) → field_fault body_len large pdata fixes ≡ None → fields ≡ filter has_field fixes → AreApart fields → ArePatchable (size_of body_len) fields
patchable_ascending body_len large pdata fixes fields none e apart =
    record { each = subst (All (IsPatchable (size_of body_len))) (sym e) (each_patchable body_len large pdata fixes none); apart = apart }

pub patchable_sorted : (body_len : Option ℕ) (large pdata : Bool) (fixes fields sorted : List Fix) → field_fault body_len large pdata fixes ≡ None → fields ≡ filter has_field fixes → IsPermutation fields sorted → IsNonDecreasingBy (λ fix. fix.at) sorted → ArePatchable (size_of body_len) sorted
patchable_sorted body_len large pdata fixes fields sorted none e permuted ascend =
    let each = All-permutation (IsPatchable (size_of body_len)) fields sorted permuted (subst (All (IsPatchable (size_of body_len))) (sym e) (each_patchable body_len large pdata fixes none)) in
    let pairs = AllPairs-filter (λ first second. shares_byte first second ≡ false) has_field fixes (each_parted body_len large pdata fixes none) in
    let parted = IsPermutation-keeps fields AnyTwoParted (subst AnyTwoParted (sym e) (any_two (filter has_field fixes) pairs)) (λ l a b in_a in_b. swap_keeps l a b in_a in_b) sorted permuted in
    record { each = each; apart = apart_sorted sorted ascend parted (λ k d lt. (each k d lt).some) }
