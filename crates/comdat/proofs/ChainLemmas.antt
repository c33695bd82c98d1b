-- Chains of parents that end: a section and its parent have one end.
use Rattle.std.proofs.Common.{◌≡◌, ℕ, zero, suc, ◌+◌, ◌-◌, ◌<◌, Bool, false, eqb, List, ◌∷◌, length, map, get_or, set, Option, None, Some, unwrap_or, refl, sym, ap, ◌∙◌, subst, inl, inr, eq-eqb, add-one, arith}
use Rattle.std.specs.List.{range_with_len}
use Rattle.std.proofs.Math.ListN.{length-set}
use Rattle.std.proofs.lemmas.Bool.{eqb-true, eqb-false, not-false, cases_eq}
use Rattle.std.proofs.lemmas.List.{get_or-set_other, get_or-set_same, ext_get_or}
use Rattle.std.proofs.lemmas.List.FromFn.{get_or-map-range_with_len, length-map-range_with_len}
use Rattle.link_base.specs.Bytes.{first_below}
use Rattle.link_base.proofs.CallerLemmas.{first_below-found, first_below-none, first_below-some, first_below-all_fail}
use Rattle.coff_aux.specs.Parents.{parent_at, ancestor, comes_back, AreParents}
use Rattle.coff_aux.proofs.CallerLemmas.{ancestor-within}
use Rattle.comdat.specs.Chains.{ends_at, chain_steps, chain_end, AreEnds}

-- no chain comes back
pub record DoEnd (parents : List ℕ) : Type 0 where
  pub are : AreParents parents
  pub ends : first_below (length parents) (comes_back parents) ≡ None

pub ancestor_next : (parents : List ℕ) (steps section : ℕ) → ancestor parents (suc steps) section ≡ ancestor parents steps (parent_at parents section)
unfolding ancestor
ancestor_next parents zero section = refl
ancestor_next parents (suc n) section = ap (parent_at parents) (ancestor_next parents n section)

pub ancestor_more : (parents : List ℕ) (steps section : ℕ) → ancestor parents (steps + 1) section ≡ parent_at parents (ancestor parents steps section)
unfolding ancestor
ancestor_more parents steps section = ap (λ (n : ℕ). ancestor parents n section) (add-one steps)

pub ancestor_first : (parents : List ℕ) (section : ℕ) → ancestor parents 0 section ≡ section
unfolding ancestor
ancestor_first parents section = refl

-- the chain of a section has ended after as many steps as there are numbers
pub has_ended : (parents : List ℕ) (section : ℕ) → DoEnd parents → section < length parents → ancestor parents (length parents) section ≡ 0
has_ended parents section are lt =
    eqb-true (ancestor parents (length parents) section) 0 (not-false (eqb (ancestor parents (length parents) section) 0) (first_below-none (length parents) (comes_back parents) are.ends section lt))

-- so it has an end
goes_on : (parents : List ℕ) (section steps : ℕ) → 0 < section → ((k : ℕ) → k < steps → ends_at parents section k ≡ false) → 0 < ancestor parents steps section
unfolding ancestor
goes_on parents section zero some none = some
goes_on parents section (suc n) some none =
    let differs = eqb-false (parent_at parents (ancestor parents n section)) 0 (none n (omega arith)) in
    positive (parent_at parents (ancestor parents n section)) differs
  where
    positive : (n : ℕ) → (n ≡ 0 → ⊥) → 0 < n
    positive zero differs = absurd (differs refl)
    positive (suc n) differs = omega arith

has_steps : (parents : List ℕ) (section : ℕ) → DoEnd parents → 0 < section → section < length parents → (steps : ℕ) × (first_below (length parents) (ends_at parents section) ≡ Some steps)
has_steps parents section are some lt = go (first_below (length parents) (ends_at parents section)) refl
  where
    go : (found : Option ℕ) → first_below (length parents) (ends_at parents section) ≡ found → (steps : ℕ) × (first_below (length parents) (ends_at parents section) ≡ Some steps)
    go (Some steps) e = (steps, e)
    go None e =
        let on = goes_on parents section (length parents) some (first_below-none (length parents) (ends_at parents section) e) in
        absurd (omega (arith, on, has_ended parents section are lt))

-- a section without a parent is the end of its chain
pub end_here : (parents : List ℕ) (section : ℕ) → section < length parents → parent_at parents section ≡ 0 → chain_end parents section ≡ section
unfolding chain_end ancestor
end_here parents section lt none =
    let found : first_below (length parents) (ends_at parents section) ≡ Some 0 =
    first_below-found 0 (length parents) (ends_at parents section) (omega arith) (first_below-all_fail 0 (ends_at parents section) (λ k less. absurd (omega arith))) (eq-eqb (parent_at parents section) 0 none) in
    ap (λ (o : Option ℕ). ancestor parents (unwrap_or o 0) section) found

-- a section with a parent has the end of its parent
pub end_above : (parents : List ℕ) (section : ℕ) → DoEnd parents → 0 < section → section < length parents → 0 < parent_at parents section → chain_end parents section ≡ chain_end parents (parent_at parents section)
unfolding chain_end
end_above parents section are some lt has = go (has_steps parents section are some lt).0 (has_steps parents section are some lt).1
  where
    parent : ℕ
    parent = parent_at parents section

    go : (steps : ℕ) → first_below (length parents) (ends_at parents section) ≡ Some steps → ancestor parents (chain_steps parents section) section ≡ ancestor parents (chain_steps parents parent) parent
    go zero e =
        let first : parent_at parents (ancestor parents 0 section) ≡ 0 = eqb-true _ 0 (first_below-some (length parents) 0 (ends_at parents section) e).1.0 in
        absurd (omega (arith, has, first, ap (parent_at parents) (ancestor_first parents section)))
    go (suc n) e =
        let h = first_below-some (length parents) (suc n) (ends_at parents section) e in
        let above : (k : ℕ) → ends_at parents parent k ≡ ends_at parents section (suc k) = λ k. ap (λ (s : ℕ). eqb (parent_at parents s) 0) (sym (ancestor_next parents k section)) in
        let none : first_below n (ends_at parents parent) ≡ None =
        first_below-all_fail n (ends_at parents parent) (λ k less. above k ∙ first_below-none (suc n) (ends_at parents section) h.1.1 (suc k) (omega arith)) in
        let found : first_below (length parents) (ends_at parents parent) ≡ Some n =
        first_below-found n (length parents) (ends_at parents parent) (omega (arith, h.0)) none (above n ∙ h.1.0) in
        ap (λ (o : Option ℕ). ancestor parents (unwrap_or o 0) section) e ∙ ancestor_next parents n section ∙ ap (λ (o : Option ℕ). ancestor parents (unwrap_or o 0) parent) (sym found)

-- what a list says of a section, with an entry for 0 in front and without
pub behind_first : (own : List Bool) (section : ℕ) → 0 < section → get_or own (section - 1) false ≡ get_or (false ∷ own) section false
behind_first own zero some = absurd (omega arith)
behind_first own (suc k) some = ap (λ (n : ℕ). get_or own n false) (omega arith)

-- ---- the ends that are known

-- none is
pub none_known : (parents known : List ℕ) → length known ≡ length parents → ((k : ℕ) → k < length parents → get_or known k 0 ≡ 0) → AreEnds parents known
none_known parents known same none = record {
  same_length = same;
  right = λ section lt some. absurd (omega (arith, some, none section lt));
}

-- one more is
pub known_more : (parents known : List ℕ) (at section end : ℕ) → AreEnds parents known → at < length parents → chain_end parents at ≡ chain_end parents section → end ≡ chain_end parents section → AreEnds parents (set known at end)
known_more parents known at section end are within same is = record {
  same_length = length-set known at end ∙ are.same_length;
  right = λ k lt some. elim (cases_eq k at) [
    | inl here ↦
        ap (λ (n : ℕ). get_or (set known at end) n 0) here
        ∙ get_or-set_same known at end 0 (omega (arith, are.same_length))
        ∙ is ∙ sym same ∙ ap (chain_end parents) (sym here)
    | inr apart ↦
        let old = get_or-set_other known at k end 0 apart in
        old ∙ are.right k lt (subst (λ (n : ℕ). 0 < n) old some)
  ];
}

-- that of the number 0
pub end_none : (parents : List ℕ) → AreParents parents → 0 < length parents → chain_end parents 0 ≡ 0
end_none parents are some = end_here parents 0 some are.none

-- all are, where each section's is
pub all_known : (parents known : List ℕ) → AreParents parents → 0 < length parents → AreEnds parents known → ((k : ℕ) → 0 < k → k < length parents → 0 < get_or known k 0) → known ≡ map (chain_end parents) (range_with_len 0 (length parents))
all_known parents known are some ends noted =
    ext_get_or 0 known (map (chain_end parents) (range_with_len 0 (length parents))) (ends.same_length ∙ sym (length-map-range_with_len (chain_end parents) 0 (length parents)))
    (λ k lt.
    let within : k < length parents = omega (arith, lt, ends.same_length) in
    at k within ∙ sym (get_or-map-range_with_len (chain_end parents) 0 (length parents) k k 0 within (omega arith)))
  where
    -- none stands for the number 0
    first : (n : ℕ) → n ≡ get_or known 0 0 → get_or known 0 0 ≡ 0
    first zero is = sym is
    first (suc n) is = absurd (omega (arith, is, ends.right 0 some (omega (arith, is)), end_none parents are some))

    at : (k : ℕ) → k < length parents → get_or known k 0 ≡ chain_end parents k
    at zero lt = first (get_or known 0 0) refl ∙ sym (end_none parents are some)
    at (suc k) lt = ends.right (suc k) lt (noted (suc k) (omega arith) lt)

-- ---- the end of a chain is a section

pub end_some : (parents : List ℕ) (section : ℕ) → DoEnd parents → 0 < section → section < length parents → 0 < chain_end parents section
unfolding chain_end
end_some parents section are some lt =
    let steps = has_steps parents section are some lt in
    let h = first_below-some (length parents) steps.0 (ends_at parents section) steps.1 in
    subst (λ (o : Option ℕ). 0 < ancestor parents (unwrap_or o 0) section) (sym steps.1) (goes_on parents section steps.0 some (first_below-none steps.0 (ends_at parents section) h.1.1))

pub end_within : (parents : List ℕ) (section : ℕ) → AreParents parents → section < length parents → chain_end parents section < length parents
unfolding chain_end
end_within parents section are lt = ancestor-within parents (chain_steps parents section) section are lt
