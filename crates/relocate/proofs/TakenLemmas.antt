-- The places of fields that are taken, in the order of the relocations' indexes.
use Rattle.std.proofs.Common.{◌≡◌, ◌≢◌, ℕ, ◌+◌, ◌<◌, ◌≤◌, List, [], ◌∷◌, Option, Some, None, Bool, true, false, cond, refl, sym, ap, ◌∙◌, eqb, lt-ltb, inl, inr, arith, nat_le, subst}
use Rattle.std.proofs.lemmas.Option.{same_Some}
use Rattle.std.proofs.lemmas.Bool.{cases_lt, false≢true}
use Rattle.std.proofs.lemmas.Bool.Decides.{nat_tests, eqb_tells}
use Rattle.std.specs.Bool.{MatchBool}
use Rattle.std.specs.Map.{lookup}
use Rattle.std.specs.Option.{is_some}
use Rattle.std.specs.Ordering.{nat_cmp}
use Rattle.std.specs.BTreeMap as tree
use Rattle.std.specs.BTreeMap.{BTreeMap}
use Rattle.link_base.specs.Bytes.{first_below}
use Rattle.link_base.proofs.CallerLemmas.{first_below-all_fail, first_below-none}
use Rattle.link_base.proofs.OptionLemmas.{none_is}
use Rattle.relocate.specs.declared.fix.Fix.{Fix}
use Rattle.relocate.specs.Field.{field_width, field_end, ranges_meet, shares_byte, fix_at}
use Rattle.relocate.specs.FieldFaults.{overlaps_earlier}
use Rattle.relocate.specs.Taken.{width_at, AreNarrow}
use Rattle.relocate.proofs.JudgeLemmas.{absolute_width, meets_none}

-- the fields of the first k relocations, each with its width at its place
pub record Holds (fixes : List Fix) (k : ℕ) (taken : BTreeMap ℕ ℕ) : Type 0 where
  pub sound : (place width : ℕ) → width_at taken place ≡ Some width → (j : ℕ) × (j < k) × ((fix_at fixes j).at ≡ place) × (field_width (fix_at fixes j).kind ≡ width)
  pub complete : (j : ℕ) → j < k → 0 < field_width (fix_at fixes j).kind → width_at taken (fix_at fixes j).at ≡ Some (field_width (fix_at fixes j).kind)

small : (a b c d : Bool) → cond a 0 (cond b 8 (cond c 2 (cond d 4 0))) ≤ 8
small true b c d = omega arith
small false true c d = omega arith
small false false true d = omega arith
small false false false true = omega arith
small false false false false = omega arith

pub narrow_width : (kind : ℕ) → field_width kind ≤ 8
unfolding field_width
narrow_width kind = small (eqb kind 0) (eqb kind 1) (eqb kind 10) (nat_le kind 11)

pub narrow : (fixes : List Fix) (k : ℕ) (taken : BTreeMap ℕ ℕ) → Holds fixes k taken → AreNarrow taken
narrow fixes k taken holds place width e =
    let found = holds.sound place width e in
    let le = narrow_width (fix_at fixes found.0).kind in
    let same = found.3 in
    omega arith

-- ---- overlaps

some_found : (n j : ℕ) (test : ℕ → Bool) (found : Option ℕ) → found ≡ first_below n test → j < n → test j ≡ true → is_some found ≡ true
some_found n j test None e lt passes = absurd (false≢true (sym (first_below-none n test (sym e) j lt) ∙ passes))
some_found n j test (Some k) e lt passes = refl

same_meet : (a b v w start end : ℕ) → a ≡ b → v ≡ w → ranges_meet b (b + w) start end ≡ true → ranges_meet a (a + v) start end ≡ true
same_meet a b v w start end e f h = rw (e, f) h

-- what is taken overlaps a field exactly where an earlier one does
pub overlap_is : (fixes : List Fix) (k : ℕ) (taken : BTreeMap ℕ ℕ) (met : Bool) → Holds fixes k taken
    → MatchBool met ((place width : ℕ) × (width_at taken place ≡ Some width) × (ranges_meet place (place + width) (fix_at fixes k).at (field_end (fix_at fixes k)) ≡ true))
    ((place width : ℕ) → width_at taken place ≡ Some width → ranges_meet place (place + width) (fix_at fixes k).at (field_end (fix_at fixes k)) ≡ false)
    → met ≡ overlaps_earlier fixes k
unfolding overlaps_earlier
overlap_is fixes k taken true holds found =
    let from = holds.sound found.0 found.1 found.2 in
    sym (some_found k from.0 (λ j. shares_byte (fix_at fixes j) (fix_at fixes k)) (first_below k (λ j. shares_byte (fix_at fixes j) (fix_at fixes k))) refl from.1
    (same_meet (fix_at fixes from.0).at found.0 (field_width (fix_at fixes from.0).kind) found.1 (fix_at fixes k).at (field_end (fix_at fixes k)) from.2 from.3 found.3))
overlap_is fixes k taken false holds none =
    sym (ap is_some (first_below-all_fail k _ (λ j lt. apart_from j lt)))
  where
    apart_from : (j : ℕ) → j < k → shares_byte (fix_at fixes j) (fix_at fixes k) ≡ false
    apart_from j lt =
        elim (cases_lt 0 (field_width (fix_at fixes j).kind)) [
          | inl some ↦ none (fix_at fixes j).at (field_width (fix_at fixes j).kind) (holds.complete j lt some)
          | inr nothing ↦ meets_none (fix_at fixes j).at (field_end (fix_at fixes j)) (fix_at fixes k).at (field_end (fix_at fixes k)) (λ some. absurd (omega arith))
        ]

-- ---- the steps

none_in : (test : ℕ → Bool) (entries : List (ℕ × ℕ)) (width : ℕ) → entries ≡ [] → lookup test entries ≡ Some width → ⊥
none_in test [] width empty e = absurd cc
none_in test (entry ∷ entries) width empty e = absurd cc

pub holds_none : (fixes : List Fix) (taken : BTreeMap ℕ ℕ) → tree.IsEmpty taken → Holds fixes 0 taken
holds_none fixes taken empty =
    record { sound = λ place width e. absurd (none_in (tree.is_at (nat_cmp place)) taken.entries width empty e); complete = λ j lt some. absurd (omega arith) }

pub holds_absolute : (fixes : List Fix) (k : ℕ) (taken : BTreeMap ℕ ℕ) → Holds fixes k taken → (fix_at fixes k).kind ≡ 0 → Holds fixes (k + 1) taken
holds_absolute fixes k taken holds absolute =
    record {
      sound = λ place width e. let found = holds.sound place width e in let lt = found.1 in (found.0, omega arith, found.2, found.3);
      complete = λ j lt some. elim (cases_lt j k) [
        | inl before ↦ holds.complete j before some
        | inr here ↦ let same : j ≡ k = omega arith in
            absurd (let none = ap (λ (i : ℕ). field_width (fix_at fixes i).kind) same ∙ absolute_width (fix_at fixes k).kind absolute in omega arith)
      ];
    }

other_key : (a b : ℕ) → a ≢ b → tree.is_at (nat_cmp a) b ≡ false
other_key a b apart = grind (arith, nat_tests)

distinct : (a v b w : ℕ) → 0 < v → 0 < w → ranges_meet a (a + v) b (b + w) ≡ false → a ≡ b → ⊥
distinct a v b w some other h same = false≢true (sym h ∙ lt-ltb _ _ (omega arith))

pub parted_from : (fixes : List Fix) (k j : ℕ) → overlaps_earlier fixes k ≡ false → j < k → shares_byte (fix_at fixes j) (fix_at fixes k) ≡ false
unfolding overlaps_earlier
parted_from fixes k j apart lt = first_below-none k (λ i. shares_byte (fix_at fixes i) (fix_at fixes k)) (none_is _ apart) j lt

holds_field : (fixes : List Fix) (k : ℕ) (old new : BTreeMap ℕ ℕ) → Holds fixes k old → overlaps_earlier fixes k ≡ false → 0 < field_width (fix_at fixes k).kind
    → tree.Updates nat_cmp old new (fix_at fixes k).at (Some (field_width (fix_at fixes k).kind)) → Holds fixes (k + 1) new
holds_field fixes k old new holds apart some updates =
    record {
      sound = λ place width e. elim (eqb_tells (fix_at fixes k).at place) [
        | inl same ↦
            let there : width_at new place ≡ Some (field_width (fix_at fixes k).kind) = ap (width_at new) (sym same.1) ∙ updates.1 in
            (k, omega arith, same.1, same_Some _ _ (sym there ∙ e))
        | inr other ↦
            let kept : width_at new place ≡ width_at old place = updates.2 place (other_key (fix_at fixes k).at place other.1) in
            let found = holds.sound place width (sym kept ∙ e) in
            let lt = found.1 in
            (found.0, omega arith, found.2, found.3)
      ];
      complete = λ j lt wide. elim (cases_lt j k) [
        | inl before ↦
            let other = distinct (fix_at fixes j).at (field_width (fix_at fixes j).kind) (fix_at fixes k).at (field_width (fix_at fixes k).kind) wide some (parted_from fixes k j apart before) in
            let kept : width_at new (fix_at fixes j).at ≡ width_at old (fix_at fixes j).at = updates.2 (fix_at fixes j).at (other_key (fix_at fixes k).at (fix_at fixes j).at (λ e. other (sym e))) in
            kept ∙ holds.complete j before wide
        | inr here ↦
            let same : j ≡ k = omega arith in
            ap (λ (i : ℕ). width_at new (fix_at fixes i).at) same ∙ (updates.1 ∙ ap (λ (i : ℕ). Some (field_width (fix_at fixes i).kind)) (sym same))
      ];
    }

pub holds_step : (fixes : List Fix) (k : ℕ) (old new : BTreeMap ℕ ℕ) (at width : ℕ) → Holds fixes k old → overlaps_earlier fixes k ≡ false → 0 < field_width (fix_at fixes k).kind
    → at ≡ (fix_at fixes k).at → width ≡ field_width (fix_at fixes k).kind → tree.Updates nat_cmp old new at (Some width) → Holds fixes (k + 1) new
holds_step fixes k old new at width holds apart some e f updates =
    holds_field fixes k old new holds apart some
    (subst (λ (a : ℕ). tree.Updates nat_cmp old new a (Some (field_width (fix_at fixes k).kind))) e (subst (λ (v : ℕ). tree.Updates nat_cmp old new at (Some v)) f updates))
