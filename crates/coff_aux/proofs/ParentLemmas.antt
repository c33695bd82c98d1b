-- Chains of parents: one that has not ended after as many steps as the list has numbers comes to a section twice.
use Rattle.std.proofs.Common.{◌≡◌, ◌≢◌, ℕ, zero, suc, ◌+◌, ◌-◌, ◌*◌, ◌<◌, ◌≤◌, Bool, true, false, ◌||◌, eqb, List, ◌++◌, length, take, get_or, set, Some, None, refl, sym, ap, ◌∙◌, inl, inr, add-one, arith}
use Rattle.std.specs.List.{range_with_len, list_any}
use Rattle.std.proofs.Math.Seq.{take-append_seam}
use Rattle.std.proofs.lemmas.List.{get_or-set_same, get_or-set_other}
use Rattle.std.proofs.lemmas.Bool.{false≢true, eqb-true, eqb-false, eq-eqb, ne_eqb, cases_eq, or_parts, or_cases, or_right, not-true, not-false, not_from_false}
use Rattle.link_base.specs.Bytes.{first_below}
use Rattle.link_base.proofs.CallerLemmas.{first_below-some, first_below-none}
use Rattle.link_base.proofs.RangeLemmas.{range_more}
use Rattle.link_base.proofs.NumberLemmas.{far_enough}
use Rattle.link_base.proofs.PigeonLemmas.{pigeon}
use Rattle.coff_aux.specs.Parents.{parent_at, ancestor, comes_back, is_met, is_marked, AreParents, ComesTwice}
use Rattle.coff_aux.proofs.StartLemmas.{any_more}

-- ---- the end of a chain

pub ancestor-add : (parents : List ℕ) (a b section : ℕ) → ancestor parents (a + b) section ≡ ancestor parents b (ancestor parents a section)
unfolding ancestor
ancestor-add parents a zero section = ap (λ (n : ℕ). ancestor parents n section) (omega arith)
ancestor-add parents a (suc b) section =
    let e : a + suc b ≡ suc (a + b) = omega arith in
    ap (λ (n : ℕ). ancestor parents n section) e ∙ ap (parent_at parents) (ancestor-add parents a b section)

stays_at_end : (parents : List ℕ) (steps : ℕ) → AreParents parents → ancestor parents steps 0 ≡ 0
unfolding ancestor
stays_at_end parents zero are = refl
stays_at_end parents (suc steps) are = ap (parent_at parents) (stays_at_end parents steps are) ∙ are.none

-- a chain that has ended has ended at every later step
pub ended_later : (parents : List ℕ) (a b section : ℕ) → AreParents parents → a ≤ b → ancestor parents a section ≡ 0 → ancestor parents b section ≡ 0
ended_later parents a b section are le ended =
    let parts : b ≡ a + (b - a) = omega arith in
    ap (λ (n : ℕ). ancestor parents n section) parts ∙ ancestor-add parents a (b - a) section
    ∙ ap (ancestor parents (b - a)) ended ∙ stays_at_end parents (b - a) are

pub ancestor-within : (parents : List ℕ) (steps section : ℕ) → AreParents parents → section < length parents → ancestor parents steps section < length parents
unfolding ancestor
ancestor-within parents zero section are lt = lt
ancestor-within parents (suc steps) section are lt =
    are.within (ancestor parents steps section) (ancestor-within parents steps section are lt)

-- ---- a chain that goes on for long comes to a section twice

goes_round : (parents : List ℕ) (section : ℕ) → AreParents parents → section < length parents → ((k : ℕ) → k < length parents → ancestor parents k section ≢ 0) → ComesTwice parents section
goes_round parents section are lt on =
    let n = length parents in
    let place = λ (k : ℕ). ancestor parents k section - 1 in
    let above = λ (k : ℕ) (below : k < n). above_zero (ancestor parents k section) (on k below) in
    let met = pigeon place (n - 1) (λ k le. omega (arith, above k (omega arith), ancestor-within parents k section are lt)) in
    let first : met.first < n = omega (arith, met.apart, met.within) in
    let later : met.other < n = omega (arith, met.within) in
    record {
      early = met.first;
      late = met.other;
      apart = met.apart;
      there = on met.first first;
      again = omega (arith, met.same, above met.first first, above met.other later);
    }
  where
    above_zero : (x : ℕ) → x ≢ 0 → 0 < x
    above_zero zero ne = absurd (ne refl)
    above_zero (suc x) ne = omega arith

-- ---- a chain that comes to a section twice does not end

round : (parents : List ℕ) (section early gap : ℕ) → ancestor parents (early + gap) section ≡ ancestor parents early section → (turns : ℕ) → ancestor parents (early + turns * gap) section ≡ ancestor parents early section
round parents section early gap again zero = ap (λ (n : ℕ). ancestor parents n section) (omega arith)
round parents section early gap again (suc turns) =
    let more : early + suc turns * gap ≡ (early + turns * gap) + gap = omega arith in
    ap (λ (n : ℕ). ancestor parents n section) more ∙ ancestor-add parents (early + turns * gap) gap section
    ∙ ap (ancestor parents gap) (round parents section early gap again turns) ∙ sym (ancestor-add parents early gap section) ∙ again

pub endless : (parents : List ℕ) (section : ℕ) → AreParents parents → ComesTwice parents section → (steps : ℕ) → ancestor parents steps section ≢ 0
endless parents section are twice steps ended =
    let gap = twice.late - twice.early in
    let whole : twice.early + gap ≡ twice.late = omega (arith, twice.apart) in
    let again = round parents section twice.early gap (ap (λ (k : ℕ). ancestor parents k section) whole ∙ twice.again) steps in
    let late : steps ≤ twice.early + steps * gap = omega (arith, far_enough steps gap (omega (arith, twice.apart))) in
    twice.there (sym again ∙ ended_later parents steps (twice.early + steps * gap) section are late ended)

-- ---- what the test says

pub comes_back_from_twice : (parents : List ℕ) (section : ℕ) → AreParents parents → section < length parents → ComesTwice parents section → comes_back parents section ≡ true
comes_back_from_twice parents section are lt twice =
    not_from_false _ (ne_eqb (ancestor parents (length parents) section) 0 (endless parents section are twice (length parents)))

pub comes_twice_from_back : (parents : List ℕ) (section : ℕ) → AreParents parents → section < length parents → comes_back parents section ≡ true → ComesTwice parents section
comes_twice_from_back parents section are lt back =
    goes_round parents section are lt (λ k below ended.
    eqb-false (ancestor parents (length parents) section) 0 (not-true _ back) (ended_later parents k (length parents) section are (omega arith) ended))

-- a chain that ends at some time has ended after as many steps as the list has numbers
pub ends_in_time : (parents : List ℕ) (section steps : ℕ) → AreParents parents → section < length parents → ancestor parents steps section ≡ 0 → comes_back parents section ≡ false
ends_in_time parents section steps are lt ended = go (comes_back parents section) refl
  where
    go : (b : Bool) → comes_back parents section ≡ b → b ≡ false
    go false e = refl
    go true e = absurd (endless parents section are (comes_twice_from_back parents section are lt e) steps ended)

-- a chain that ends has come to 0 after that many steps
pub end_reached : (parents : List ℕ) (section : ℕ) → comes_back parents section ≡ false → ancestor parents (length parents) section ≡ 0
end_reached parents section ends = eqb-true _ 0 (not-false _ ends)

-- ---- marks

pub or_nothing : (a b : Bool) → b ≡ false → a ≡ (a || b)
or_nothing true b e = refl
or_nothing false b e = sym e

one_more : (test : ℕ → Bool) (n : ℕ) → list_any test (range_with_len 0 (n + 1)) ≡ (list_any test (range_with_len 0 n) || test n)
one_more test n =
    ap (list_any test) (range_more 0 n n (omega arith)) ∙ any_more test (range_with_len 0 n) n (test n) refl

-- of each marked section the chain ends
abbrev pub AreMarksOfEnds : List ℕ → List Bool → Type 0
AreMarksOfEnds parents marks = (section : ℕ) → get_or marks section false ≡ true → comes_back parents section ≡ false

-- at the start none is marked
pub none_marked : (parents : List ℕ) (marks : List Bool) → ((k : ℕ) → get_or marks k false ≡ false) → AreMarksOfEnds parents marks
none_marked parents marks none section is = absurd (false≢true (sym (none section) ∙ is))

-- a walk that meets its end, or a mark: the chain ends
pub ends_if_met : (parents : List ℕ) (marks : List Bool) (section steps : ℕ) → AreParents parents → section < length parents → AreMarksOfEnds parents marks → is_met parents marks section steps ≡ true → comes_back parents section ≡ false
ends_if_met parents marks section steps are lt known met =
    let n = length parents in
    let there = ancestor parents steps section in
    elim (or_cases (eqb there 0) (get_or marks there false) met) [
      | inl ended ↦ ends_in_time parents section steps are lt (eqb-true there 0 ended)
      | inr marked ↦ ends_in_time parents section (steps + n) are lt (ancestor-add parents steps n section ∙ end_reached parents there (known there marked))
    ]

-- a walk that meets none: the chain does not end
pub circle_if_never_met : (parents : List ℕ) (marks : List Bool) (section : ℕ) → AreParents parents → section < length parents → first_below (length parents) (is_met parents marks section) ≡ None → comes_back parents section ≡ true
circle_if_never_met parents marks section are lt none =
    comes_back_from_twice parents section are lt
    (goes_round parents section are lt (λ k below.
    eqb-false (ancestor parents k section) 0 (or_parts _ _ (first_below-none (length parents) (is_met parents marks section) none k below)).0))

-- the chain of a section ends: so do those of the sections that it goes through
ends_along : (parents : List ℕ) (section steps : ℕ) → AreParents parents → section < length parents → comes_back parents section ≡ false → comes_back parents (ancestor parents steps section) ≡ false
ends_along parents section steps are lt ends =
    let n = length parents in
    ends_in_time parents (ancestor parents steps section) n are (ancestor-within parents steps section are lt)
    (sym (ancestor-add parents steps n section) ∙ ended_later parents n (steps + n) section are (omega arith) (end_reached parents section ends))

ends_among : (parents : List ℕ) (section steps other : ℕ) → AreParents parents → section < length parents → comes_back parents section ≡ false → list_any (λ k. eqb (ancestor parents k section) other) (range_with_len 0 steps) ≡ true → comes_back parents other ≡ false
ends_among parents section zero other are lt ends among = absurd (false≢true among)
ends_among parents section (suc steps) other are lt ends among =
    let test = λ (k : ℕ). eqb (ancestor parents k section) other in
    elim (or_cases (list_any test (range_with_len 0 steps)) (test steps) (sym (one_more test steps) ∙ ap (λ (n : ℕ). list_any test (range_with_len 0 n)) (add-one steps) ∙ among)) [
      | inl earlier ↦ ends_among parents section steps other are lt ends earlier
      | inr here ↦ ap (comes_back parents) (sym (eqb-true (ancestor parents steps section) other here)) ∙ ends_along parents section steps are lt ends
    ]

-- the first sections of a chain that ends are marked: of each marked section the chain ends
pub more_marks : (parents : List ℕ) (old new : List Bool) (section steps : ℕ) → AreParents parents → section < length parents → comes_back parents section ≡ false → AreMarksOfEnds parents old → ((other : ℕ) → get_or new other false ≡ is_marked parents old section steps other) → AreMarksOfEnds parents new
more_marks parents old new section steps are lt ends known is other marked =
    elim (or_cases (get_or old other false) _ (sym (is other) ∙ marked)) [
      | inl before ↦ known other before
      | inr among ↦ ends_among parents section steps other are lt ends among
    ]

-- one section more of the chain is marked
pub marks_one_more : (parents : List ℕ) (old marks : List Bool) (section steps at : ℕ) → at ≡ ancestor parents steps section → at < length marks → ((other : ℕ) → get_or marks other false ≡ is_marked parents old section steps other) → (other : ℕ) → get_or (set marks at true) other false ≡ is_marked parents old section (steps + 1) other
marks_one_more parents old marks section steps at is lt before other =
    let test = λ (k : ℕ). eqb (ancestor parents k section) other in
    elim (cases_eq other at) [
      | inl same ↦
          ap (λ (k : ℕ). get_or (set marks at true) k false) same ∙ get_or-set_same marks at true false lt
          ∙ sym (or_right (get_or old other false) _ (one_more test steps ∙ or_right _ (test steps) (eq-eqb _ _ (sym is ∙ sym same))))
      | inr apart ↦
          get_or-set_other marks at other true false apart ∙ before other
          ∙ ap (λ (b : Bool). get_or old other false || b) (or_nothing _ (test steps) (ne_eqb _ _ (λ e. apart (sym e ∙ sym is))) ∙ sym (one_more test steps))
    ]

-- ---- the loops along a chain

-- no steps are done
pub ancestor-none : (parents : List ℕ) (section : ℕ) → section ≡ ancestor parents 0 section
unfolding ancestor
ancestor-none parents section = refl

pub none_met : (parents : List ℕ) (marks : List Bool) (section : ℕ) → first_below 0 (is_met parents marks section) ≡ None
unfolding first_below
none_met parents marks section = refl

-- one step more
pub ancestor-more : (parents : List ℕ) (section steps at : ℕ) → at ≡ ancestor parents steps section → get_or parents at 0 ≡ ancestor parents (steps + 1) section
unfolding ancestor
ancestor-more parents section steps at is = rw add-one (ap (parent_at parents) is)

-- what the two tests at a section say
pub met_at : (parents : List ℕ) (marks : List Bool) (section steps at : ℕ) → at ≡ ancestor parents steps section → is_met parents marks section steps ≡ (eqb at 0 || get_or marks at false)
met_at parents marks section steps at is = ap (λ (k : ℕ). eqb k 0 || get_or marks k false) (sym is)

-- a walk that answers so many steps, over marks of ends: the chain ends
pub ends_after_walk : (parents : List ℕ) (marks : List Bool) (section steps : ℕ) → AreParents parents → section < length parents → AreMarksOfEnds parents marks → Some steps ≡ first_below (length parents) (is_met parents marks section) → comes_back parents section ≡ false
ends_after_walk parents marks section steps are lt known is =
    ends_if_met parents marks section steps are lt known (first_below-some (length parents) steps (is_met parents marks section) (sym is)).1.0

-- a vector whose slice was written to is the slice
pub written : (n : ℕ) (new old : List Bool) → n ≡ length new → take n (new ++ old) ≡ new
written n new old is = ap (λ (k : ℕ). take k (new ++ old)) is ∙ take-append_seam new old
