-- Relocations judged one after the other, in the order of their indexes.
use Rattle.std.proofs.Common.{◌≡◌, ◌≢◌, ℕ, ◌+◌, ◌-◌, ◌<◌, ◌≤◌, length, get_or, List, [], ◌∷◌, ◌++◌, take, Option, Some, None, Bool, true, false, cond, refl, sym, ap, ◌∙◌, eqb, le-ltb, lt-ltb, inl, inr, append-nil, arith, nat_le, nat_lt, subst}
use Rattle.std.proofs.lemmas.Bool.{cases_lt}
use Rattle.std.proofs.lemmas.Bool.Decides.{nat_tests}
use Rattle.std.proofs.lemmas.List.Elements.{filter_more, All-push, All-weaker, All-nil}
use Rattle.std.proofs.lemmas.List.Quantifiers.{all_pairs_push}
use Rattle.std.proofs.lemmas.List.{take_all, take_more, get_or_default}
use Rattle.std.specs.List.{All, filter}
use Rattle.std.specs.Option.{is_some}
use Rattle.link_base.specs.Refusals.{shown, first_standing, first_refusal_below}
use Rattle.link_base.proofs.CallerLemmas.{first_below-all_fail}
use Rattle.link_base.proofs.RefusalLemmas.{first_refusal_below-more, first_refusal_below-found, standing_append}
use Rattle.link_base.proofs.OptionLemmas.{both_none}
use Rattle.relocate.specs.declared.fix.Fix.{Fix}
use Rattle.relocate.specs.declared.error.FieldError.{FieldError}
use Rattle.relocate.specs.declared.error.FieldError.TheVariants.{Reloc, Target, Memory}
use Rattle.relocate.specs.Field.{field_width, field_end, has_field, ranges_meet, no_fix, fix_at}
use Rattle.relocate.specs.FieldFaults.{place_faults, target_faults, overlaps_earlier, fault_of, fault_at, field_fault, RefusesFor}
use Rattle.relocate.specs.Judged.{AreApart}
use Rattle.relocate.specs.Taken.{Descend}

-- the first k relocations have no fault, and these are their fields
pub record JudgedTo (body_len : Option ℕ) (large pdata : Bool) (fixes : List Fix) (k : ℕ) (fields : List Fix) : Type 0 where
  pub none : first_refusal_below k (fault_at body_len large pdata fixes) ≡ None
  pub fields_are : fields ≡ filter has_field (take k fixes)

-- a relocation that was unpacked is that of its place
pub unpacked_at : (fixes : List Fix) (k : ℕ) (fix item : Fix) → k < length fixes → fix ≡ item → item ≡ get_or fixes k item → fix ≡ fix_at fixes k
unpacked_at fixes k fix item lt is read = is ∙ read ∙ get_or_default fixes k item no_fix lt

-- a refusal is that of the fault that stands
pub refuses : (standing : Option FieldError) (error : FieldError) → standing ≡ Some error → RefusesFor standing error
refuses standing (Reloc _ _) e = e
refuses standing (Target _ _) e = e
refuses standing Memory e = tt

-- one of type ABSOLUTE has no field
pub absolute_width : (kind : ℕ) → kind ≡ 0 → field_width kind ≡ 0
unfolding field_width
absolute_width kind e = rw e refl

pub absolute_passes : (body_len : Option ℕ) (large pdata : Bool) (fix : Fix) (overlaps : Bool) → fix.kind ≡ 0 → fault_of body_len large pdata fix overlaps ≡ None
unfolding fault_of
absolute_passes body_len large pdata fix overlaps e = rw (e) refl

pub starts : (body_len : Option ℕ) (large pdata : Bool) (fixes : List Fix) → JudgedTo body_len large pdata fixes 0 []
unfolding first_refusal_below
starts body_len large pdata fixes = record { none = refl; fields_are = refl }

pub step_absolute : (body_len : Option ℕ) (large pdata : Bool) (fixes : List Fix) (k : ℕ) (fields : List Fix) → k < length fixes → (fix_at fixes k).kind ≡ 0 → JudgedTo body_len large pdata fixes k fields → JudgedTo body_len large pdata fixes (k + 1) fields
step_absolute body_len large pdata fixes k fields lt absolute so_far =
    record {
      none = first_refusal_below-more k _ so_far.none (absolute_passes body_len large pdata (fix_at fixes k) (overlaps_earlier fixes k) absolute);
      fields_are =
          let nothing : has_field (fix_at fixes k) ≡ false = ap (λ (w : ℕ). nat_lt 0 w) (absolute_width (fix_at fixes k).kind absolute) in
          so_far.fields_are ∙ sym (filter_more has_field fixes k no_fix lt ∙ rw nothing (append-nil (filter has_field (take k fixes))));
    }

-- ---- a relocation without a fault

if_false : {A : Type 0} (b : Bool) (x : Option A) → cond b None x ≡ None → b ≡ false → x ≡ None
if_false true x e f = absurd cc
if_false false x e f = e

pub shown_none : {A : Type 0} (b : Bool) (x : A) → shown b x ≡ None → b ≡ false
shown_none true x e = absurd cc
shown_none false x e = refl

-- the tests that it passes
pub record Passes (body_len : Option ℕ) (large pdata : Bool) (fix : Fix) (overlaps : Bool) : Type 0 where
  pub place : first_standing (place_faults body_len fix) ≡ None
  pub apart : overlaps ≡ false
  pub target : first_standing (target_faults large pdata fix) ≡ None

pub passes : (body_len : Option ℕ) (large pdata : Bool) (fix : Fix) (overlaps : Bool) → fault_of body_len large pdata fix overlaps ≡ None → fix.kind ≢ 0 → Passes body_len large pdata fix overlaps
unfolding fault_of
passes body_len large pdata fix overlaps e some =
    let nonzero : eqb fix.kind 0 ≡ false = grind (arith, nat_tests) in
    let all = if_false (eqb fix.kind 0) _ e nonzero in
    let parts = both_none (first_standing (place_faults body_len fix)) _ (sym (standing_append (place_faults body_len fix) _) ∙ all) in
    let rest = both_none (shown overlaps _) (first_standing (target_faults large pdata fix)) parts.1 in
    record { place = parts.0; apart = shown_none overlaps _ rest.0; target = rest.1 }

wide : (a b : Bool) → 0 < cond a 8 (cond b 2 4)
wide true b = omega arith
wide false true = omega arith
wide false false = omega arith

-- it has a field
pub has_width : (body_len : Option ℕ) (fix : Fix) → first_standing (place_faults body_len fix) ≡ None → fix.kind ≢ 0 → 0 < field_width fix.kind
unfolding place_faults field_width
has_width body_len fix e some =
    let linked = shown_none (nat_lt 11 fix.kind) _ (both_none (shown (nat_lt 11 fix.kind) _) _ e).0 in
    let nonzero : eqb fix.kind 0 ≡ false = grind (arith, nat_tests) in
    let upto : nat_le fix.kind 11 ≡ true = grind (arith, nat_tests) in
    rw (nonzero, upto) (wide (eqb fix.kind 1) (eqb fix.kind 10))

pub step_field : (body_len : Option ℕ) (large pdata : Bool) (fixes : List Fix) (k : ℕ) (fields : List Fix) → k < length fixes → (fix_at fixes k).kind ≢ 0 → fault_at body_len large pdata fixes k ≡ None → JudgedTo body_len large pdata fixes k fields → JudgedTo body_len large pdata fixes (k + 1) (fields ++ fix_at fixes k ∷ [])
step_field body_len large pdata fixes k fields lt some none so_far =
    record {
      none = first_refusal_below-more k _ so_far.none none;
      fields_are =
          let passed = passes body_len large pdata (fix_at fixes k) (overlaps_earlier fixes k) none some in
          let width = has_width body_len (fix_at fixes k) passed.place some in
          let kept : has_field (fix_at fixes k) ≡ true = lt-ltb _ _ width in
          rw so_far.fields_are (sym (filter_more has_field fixes k no_fix lt ∙ rw kept refl));
    }

pub refused_at : (body_len : Option ℕ) (large pdata : Bool) (fixes : List Fix) (k : ℕ) (fields : List Fix) (error : FieldError) → k < length fixes → JudgedTo body_len large pdata fixes k fields → fault_at body_len large pdata fixes k ≡ Some error → RefusesFor (field_fault body_len large pdata fixes) error
refused_at body_len large pdata fixes k fields error lt so_far here =
    refuses _ error (first_refusal_below-found k (length fixes) _ error lt so_far.none here)

-- all are judged
pub done : (body_len : Option ℕ) (large pdata : Bool) (fixes : List Fix) (k : ℕ) (fields : List Fix) → length fixes ≤ k → k ≤ length fixes → JudgedTo body_len large pdata fixes k fields → (field_fault body_len large pdata fixes ≡ None) × (fields ≡ filter has_field fixes)
done body_len large pdata fixes k fields high low so_far =
    let same : length fixes ≡ k = omega arith in
    (ap (λ (n : ℕ). first_refusal_below n (fault_at body_len large pdata fixes)) same ∙ so_far.none, so_far.fields_are ∙ ap (filter has_field) (take_all k fixes high))

-- ---- relocations that ascend

-- each field of the first k relocations ends at or below an end, and each of the list before the next begins
pub record EndBelow (fixes : List Fix) (k : ℕ) (fields : List Fix) (end : ℕ) : Type 0 where
  pub of_fixes : (j : ℕ) → j < k → 0 < field_width (fix_at fixes j).kind → field_end (fix_at fixes j) ≤ end
  pub of_fields : All (λ field. field_end field ≤ end) fields
  pub apart : AreApart fields

pub end_starts : (fixes : List Fix) → EndBelow fixes 0 [] 0
end_starts fixes = record { of_fixes = λ j lt w. absurd (omega arith); of_fields = All-nil _; apart = λ i j d lt below. absurd (omega arith) }

pub meets_none : (start end other_start other_end : ℕ) → (0 < end - start → end ≤ other_start) → ranges_meet start end other_start other_end ≡ false
meets_none start end other_start other_end h =
    le-ltb _ _ (elim (cases_lt start end) [
      | inl some ↦ let le = h (omega arith) in omega arith
      | inr none ↦ omega arith
    ])

-- a field that begins at or above the end overlaps none of them
pub apart_above : (fixes : List Fix) (k : ℕ) (fields : List Fix) (end : ℕ) → EndBelow fixes k fields end → end ≤ (fix_at fixes k).at → overlaps_earlier fixes k ≡ false
unfolding overlaps_earlier
apart_above fixes k fields end below above =
    ap is_some (first_below-all_fail k _ (λ j lt. meets_none (fix_at fixes j).at (field_end (fix_at fixes j)) (fix_at fixes k).at (field_end (fix_at fixes k)) (λ some.
    let ends = below.of_fixes j lt (omega (arith, some)) in omega arith)))

pub end_absolute : (fixes : List Fix) (k : ℕ) (fields : List Fix) (end : ℕ) → EndBelow fixes k fields end → (fix_at fixes k).kind ≡ 0 → EndBelow fixes (k + 1) fields end
end_absolute fixes k fields end below absolute =
    record {
      of_fixes = λ j lt some. elim (cases_lt j k) [
        | inl before ↦ below.of_fixes j before some
        | inr here ↦ let same : j ≡ k = omega arith in
            absurd (let none = ap (λ (i : ℕ). field_width (fix_at fixes i).kind) same ∙ absolute_width (fix_at fixes k).kind absolute in omega arith)
      ];
      of_fields = below.of_fields;
      apart = below.apart;
    }

weaker : (end high : ℕ) → end ≤ high → (field : Fix) → field_end field ≤ end → field_end field ≤ high
weaker end high le field ends = omega arith

pub end_field : (fixes : List Fix) (k : ℕ) (fields : List Fix) (end : ℕ) → EndBelow fixes k fields end → end ≤ (fix_at fixes k).at → EndBelow fixes (k + 1) (fields ++ fix_at fixes k ∷ []) (field_end (fix_at fixes k))
end_field fixes k fields end below above =
    record {
      of_fixes = λ j lt some. elim (cases_lt j k) [
        | inl before ↦ let ends = below.of_fixes j before some in omega arith
        | inr here ↦ let same : j ≡ k = omega arith in let ends = ap (λ (i : ℕ). field_end (fix_at fixes i)) same in omega arith
      ];
      of_fields = All-push (λ field. field_end field ≤ field_end (fix_at fixes k)) fields (fix_at fixes k) (All-weaker _ _ (weaker end (field_end (fix_at fixes k)) (omega arith)) fields below.of_fields) (omega arith);
      apart = all_pairs_push (λ first second. field_end first ≤ second.at) fields (fix_at fixes k) below.apart (λ i d lt. let ends = below.of_fields i d lt in omega arith);
    }

-- ---- the first k relocations ascend and have no fault

-- it ends where the field of one of the first k relocations ends
pub record EndsThere (fixes : List Fix) (k : ℕ) (end : ℕ) : Type 0 where
  pub place : ℕ
  pub there : place < k
  pub field : has_field (fix_at fixes place) ≡ true
  pub is : field_end (fix_at fixes place) ≡ end

later_end : (fixes : List Fix) (k end : ℕ) → (0 < end → EndsThere fixes k end) → 0 < end → EndsThere fixes (k + 1) end
later_end fixes k end ends some =
    let here = ends some in
    record { place = here.place; there = let lt = here.there in omega arith; field = here.field; is = here.is }

pub record AscendTo (body_len : Option ℕ) (large pdata : Bool) (fixes : List Fix) (k : ℕ) (all : Bool) (end : ℕ) : Type 0 where
  pub judged : JudgedTo body_len large pdata fixes k (filter has_field (take k fixes))
  pub below : EndBelow fixes k (filter has_field (take k fixes)) end
  pub whole : all ≡ true → filter has_field (take k fixes) ≡ take k fixes
  pub ends : 0 < end → EndsThere fixes k end

pub ascend_starts : (body_len : Option ℕ) (large pdata : Bool) (fixes : List Fix) → AscendTo body_len large pdata fixes 0 true 0
ascend_starts body_len large pdata fixes = record { judged = starts body_len large pdata fixes; below = end_starts fixes; whole = λ e. refl; ends = λ some. absurd (omega arith) }

pub ascend_absolute : (body_len : Option ℕ) (large pdata : Bool) (fixes : List Fix) (k : ℕ) (all : Bool) (end : ℕ) → k < length fixes → (fix_at fixes k).kind ≡ 0 → AscendTo body_len large pdata fixes k all end → AscendTo body_len large pdata fixes (k + 1) false end
ascend_absolute body_len large pdata fixes k all end lt absolute so_far =
    let step = step_absolute body_len large pdata fixes k (filter has_field (take k fixes)) lt absolute so_far.judged in
    record {
      judged = record { none = step.none; fields_are = refl };
      below = subst (λ (fields : List Fix). EndBelow fixes (k + 1) fields end) step.fields_are (end_absolute fixes k (filter has_field (take k fixes)) end so_far.below absolute);
      whole = λ e. absurd cc;
      ends = later_end fixes k end so_far.ends;
    }

pub ascend_field : (body_len : Option ℕ) (large pdata : Bool) (fixes : List Fix) (k : ℕ) (all : Bool) (end : ℕ) → k < length fixes → (fix_at fixes k).kind ≢ 0 → fault_of body_len large pdata (fix_at fixes k) false ≡ None → end ≤ (fix_at fixes k).at → AscendTo body_len large pdata fixes k all end
    → AscendTo body_len large pdata fixes (k + 1) all (field_end (fix_at fixes k))
ascend_field body_len large pdata fixes k all end lt some none above so_far =
    let apart = apart_above fixes k (filter has_field (take k fixes)) end so_far.below above in
    let here : fault_at body_len large pdata fixes k ≡ None = ap (fault_of body_len large pdata (fix_at fixes k)) apart ∙ none in
    let step = step_field body_len large pdata fixes k (filter has_field (take k fixes)) lt some here so_far.judged in
    record {
      judged = record { none = step.none; fields_are = refl };
      below = subst (λ (fields : List Fix). EndBelow fixes (k + 1) fields (field_end (fix_at fixes k))) step.fields_are (end_field fixes k (filter has_field (take k fixes)) end so_far.below above);
      whole = λ e. sym step.fields_are ∙ ap (λ (fields : List Fix). fields ++ fix_at fixes k ∷ []) (so_far.whole e) ∙ sym (take_more fixes k no_fix lt);
      ends = λ w. record { place = k; there = omega arith; field = lt-ltb _ _ (has_width body_len (fix_at fixes k) (passes body_len large pdata (fix_at fixes k) false none some).place some); is = refl };
    }

pub ascend_refused : (body_len : Option ℕ) (large pdata : Bool) (fixes : List Fix) (k : ℕ) (all : Bool) (end : ℕ) (error : FieldError) → k < length fixes → fault_of body_len large pdata (fix_at fixes k) false ≡ Some error → end ≤ (fix_at fixes k).at → AscendTo body_len large pdata fixes k all end
    → RefusesFor (field_fault body_len large pdata fixes) error
ascend_refused body_len large pdata fixes k all end error lt some above so_far =
    let apart = apart_above fixes k (filter has_field (take k fixes)) end so_far.below above in
    refused_at body_len large pdata fixes k (filter has_field (take k fixes)) error lt so_far.judged (ap (fault_of body_len large pdata (fix_at fixes k)) apart ∙ some)

pub ascend_ends : (body_len : Option ℕ) (large pdata : Bool) (fixes : List Fix) (k : ℕ) (all : Bool) (end : ℕ) → k < length fixes → (fix_at fixes k).at < end → AscendTo body_len large pdata fixes k all end → Descend fixes
ascend_ends body_len large pdata fixes k all end lt below so_far =
    let ends = so_far.ends (omega arith) in
    record { earlier = ends.place; later = k; order = ends.there; there = lt; field = ends.field; before = let is = ends.is in omega arith }

-- all ascend
pub record Ascend (body_len : Option ℕ) (large pdata : Bool) (fixes : List Fix) (all : Bool) : Type 0 where
  pub none : field_fault body_len large pdata fixes ≡ None
  pub apart : AreApart (filter has_field fixes)
  pub whole : all ≡ true → fixes ≡ filter has_field fixes

pub all_ascend : (body_len : Option ℕ) (large pdata : Bool) (fixes : List Fix) (k : ℕ) (all : Bool) (end : ℕ) → length fixes ≤ k → k ≤ length fixes → AscendTo body_len large pdata fixes k all end → Ascend body_len large pdata fixes all
all_ascend body_len large pdata fixes k all end high low so_far =
    let judged = done body_len large pdata fixes k (filter has_field (take k fixes)) high low so_far.judged in
    record {
      none = judged.0;
      apart = subst AreApart judged.1 so_far.below.apart;
      whole = λ e. sym (take_all k fixes high) ∙ sym (so_far.whole e) ∙ judged.1;
    }
