-- What a group chooses, and where one conflicts: a list conflicts exactly where a later section does not agree with the
-- first, so that each longer list conflicts too.
use Rattle.std.proofs.Common.{◌≡◌, ℕ, zero, suc, ◌+◌, ◌-◌, ◌<◌, Bool, true, false, cond, not, eqb, ◌&&◌, ◌||◌, List, [], ◌∷◌, length, get_or, take, Option, None, Some, ◌⊎◌, inl, inr, refl, sym, ap, ◌∙◌, subst, add-one, arith}
use Rattle.std.proofs.Math.Bool.{or-false, and-true}
use Rattle.std.specs.Prelude.{is_none}
use Rattle.std.specs.List.{list_all, list_any}
use Rattle.std.proofs.lemmas.Bool.{false≢true, eqb-true, ne_eqb, and_parts, and_from, not-false, or_from}
use Rattle.std.proofs.lemmas.List.{take_all}
use Rattle.std.proofs.lemmas.List.Folds.{list_all_more}
use Rattle.link_base.specs.Bytes.{first_below}
use Rattle.link_base.specs.Refusals.{shown, first_standing}
use Rattle.link_base.proofs.CallerLemmas.{first_below-found, first_below-none, first_below-more, first_below-some, first_below-all_fail}
use Rattle.link_base.proofs.RefusalLemmas.{or_none}
use Rattle.std.proofs.lemmas.Option.{same_Some}
use Rattle.comdat.specs.declared.candidate.Candidate.{Candidate}
use Rattle.comdat.specs.Choice.{is_any, is_same_size, is_exact_match, is_largest, is_any_or_largest, has_size, has_contents, contents_of, is_alone, are_all_any, are_same_size, are_exact_match, goes_by_size, no_candidate, size_at, is_at_most, greatest_place, chosen_place, conflicts, conflict_place}
use Rattle.comdat.specs.Steps.{agrees}
use Rattle.comdat.proofs.GreatestLemmas.{IsGreatestOf, some_greatest, greatest_is}

-- ---- the table of cases

tabled : Bool → Bool → Bool → Bool → Bool → Option ℕ → Option ℕ
tabled alone any same_size exact by_size place =
    first_standing (shown alone 0 ∷ shown any 0 ∷ shown same_size 0 ∷ shown exact 0 ∷ cond by_size place None ∷ [])

-- there is no choice exactly where no case holds
no_case : (alone any same_size exact by_size : Bool) (place : Option ℕ) → is_none place ≡ false → is_none (tabled alone any same_size exact by_size place) ≡ not (alone || (any || (same_size || (exact || by_size))))
unfolding tabled
no_case true any same_size exact by_size place some = refl
no_case false true same_size exact by_size place some = refl
no_case false false true exact by_size place some = refl
no_case false false false true by_size place some = refl
no_case false false false false true None some = absurd cc
no_case false false false false true (Some place) some = refl
no_case false false false false false place some = refl

-- a list has a greatest size
some_place : (first : Candidate) (rest : List Candidate) → is_none (greatest_place (first ∷ rest)) ≡ false
some_place first rest =
    let found = some_greatest (first ∷ rest) (length rest) in
    ap is_none (greatest_is (first ∷ rest) found.0 (subst (λ (n : ℕ). IsGreatestOf (first ∷ rest) n found.0) (add-one (length rest)) found.1))

-- ---- tests of all sections of a list

all_both : {X : Type 0} (test other : X → Bool) (xs : List X) → list_all (λ x. test x && other x) xs ≡ (list_all test xs && list_all other xs)
all_both test other [] = refl
all_both {X} test other (x ∷ xs) = ap (λ (b : Bool). (test x && other x) && b) (all_both test other xs) ∙ turned (test x) (other x) (list_all test xs) (list_all other xs)
  where
    turned : (a b c d : Bool) → ((a && b) && (c && d)) ≡ ((a && c) && (b && d))
    turned true true c d = refl
    turned true false true d = refl
    turned true false false d = refl
    turned false b c d = refl

-- all pass one of two tests: all pass the first, or one passes the second
all_either : {X : Type 0} (test other : X → Bool) (xs : List X) → list_all (λ x. test x || other x) xs ≡ (list_all test xs || (list_all (λ x. test x || other x) xs && list_any other xs))
all_either test other [] = refl
all_either {X} test other (x ∷ xs) = split (test x) (other x) (list_all test xs) (list_all (λ y. test y || other y) xs) (list_any other xs) (all_either test other xs)
  where
    split : (a b all either some : Bool) → either ≡ (all || (either && some)) → ((a || b) && either) ≡ ((a && all) || (((a || b) && either) && (b || some)))
    split true true true true some e = refl
    split true true true false some e = absurd cc
    split true true false true some e = refl
    split true true false false some e = refl
    split true false all either some e = e
    split false true all true some e = refl
    split false true all false some e = refl
    split false false all either some e = refl

-- ---- a list conflicts exactly where a section does not agree with the first

-- one selection is not another
other_selection : (selection n m : ℕ) → eqb selection n ≡ true → eqb n m ≡ false → eqb selection m ≡ false
other_selection selection n m is other = ap (λ (k : ℕ). eqb k m) (eqb-true selection n is) ∙ other

-- a section has one selection: of the tests of the first one at most one passes
record OneSelection (any same_size exact largest : Bool) : Type 0 where
  any_alone : any ≡ true → (same_size ≡ false) × ((exact ≡ false) × (largest ≡ false))
  same_size_alone : same_size ≡ true → (exact ≡ false) × (largest ≡ false)
  exact_alone : exact ≡ true → largest ≡ false

one_selection : (first : Candidate) → OneSelection (is_any first) (is_same_size first) (is_exact_match first) (is_largest first)
one_selection first =
    let other : (n m : ℕ) → eqb first.selection n ≡ true → eqb n m ≡ false → eqb first.selection m ≡ false = other_selection first.selection in
    record {
      any_alone = λ is. (other 2 3 is refl, (other 2 4 is refl, other 2 6 is refl));
      same_size_alone = λ is. (other 3 4 is refl, other 3 6 is refl);
      exact_alone = λ is. other 4 6 is refl;
    }

-- one of the cases for several holds exactly where each section agrees with the first
by_selection : (any same_size exact largest : Bool) (size : ℕ) (contents : List ℕ) (second : Candidate) (more : List Candidate) → OneSelection any same_size exact largest → ((any && list_all is_any (second ∷ more)) || (((same_size && list_all is_same_size (second ∷ more)) && list_all (has_size size) (second ∷ more)) || (((exact && list_all is_exact_match (second ∷ more)) && list_all (has_contents contents) (second ∷ more)) || (((any || largest) && list_all is_any_or_largest (second ∷ more)) && (largest || list_any is_largest (second ∷ more)))))) ≡ list_all (λ other. cond (any || largest) (is_any_or_largest other) (cond same_size (is_same_size other && has_size size other) (cond exact (is_exact_match other && has_contents contents other) false))) (second ∷ more)
by_selection true true exact largest size contents second more one = absurd (false≢true (sym (one.any_alone refl).0))
by_selection true false true largest size contents second more one = absurd (false≢true (sym (one.any_alone refl).1.0))
by_selection true false false true size contents second more one = absurd (false≢true (sym (one.any_alone refl).1.1))
by_selection true false false false size contents second more one = sym (all_either is_any is_largest (second ∷ more))
by_selection false true true largest size contents second more one = absurd (false≢true (sym (one.same_size_alone refl).0))
by_selection false true false true size contents second more one = absurd (false≢true (sym (one.same_size_alone refl).1))
by_selection false true false false size contents second more one =
    or-false (list_all is_same_size (second ∷ more) && list_all (has_size size) (second ∷ more)) ∙ sym (all_both is_same_size (has_size size) (second ∷ more))
by_selection false false true true size contents second more one = absurd (false≢true (sym (one.exact_alone refl)))
by_selection false false true false size contents second more one =
    or-false (list_all is_exact_match (second ∷ more) && list_all (has_contents contents) (second ∷ more)) ∙ sym (all_both is_exact_match (has_contents contents) (second ∷ more))
by_selection false false false true size contents second more one = and-true (list_all is_any_or_largest (second ∷ more))
by_selection false false false false size contents second more one = refl

pub conflicts_where : (first : Candidate) (rest : List Candidate) → conflicts (first ∷ rest) ≡ not (list_all (agrees first) rest)
unfolding tabled
conflicts_where first [] = refl
conflicts_where first (second ∷ more) =
    let list = first ∷ second ∷ more in
    no_case (is_alone list) (are_all_any list) (are_same_size list) (are_exact_match list) (goes_by_size list) (greatest_place list) (some_place first (second ∷ more))
    ∙ ap (λ (b : Bool). not (b || (are_all_any list || (are_same_size list || (are_exact_match list || goes_by_size list))))) (ne_eqb (length list) 1 (λ e. omega (arith, e)))
    ∙ ap not (by_selection (is_any first) (is_same_size first) (is_exact_match first) (is_largest first) first.size (contents_of first) second more (one_selection first))

-- ---- the first place that conflicts

-- where no place before it conflicts, one does exactly where its section does not agree with the first
pub conflicts_at : (list : List Candidate) (place : ℕ) → 0 < place → place < length list → first_below place (λ k. conflicts (take (k + 1) list)) ≡ None → conflicts (take (place + 1) list) ≡ not (agrees (get_or list 0 no_candidate) (get_or list place no_candidate))
conflicts_at [] place low high none = absurd (omega arith)
conflicts_at (first ∷ rest) zero low high none = absurd (omega arith)
conflicts_at (first ∷ rest) (suc n) low high none =
    let earlier : conflicts (take (n + 1) (first ∷ rest)) ≡ false = first_below-none (suc n) (λ k. conflicts (take (k + 1) (first ∷ rest))) none n (omega arith) in
    let agree : list_all (agrees first) (take n rest) ≡ true = not-false (list_all (agrees first) (take n rest)) (sym (up_to first rest n) ∙ earlier) in
    up_to first rest (suc n)
    ∙ ap (λ (k : ℕ). not (list_all (agrees first) (take k rest))) (sym (add-one n))
    ∙ ap not (list_all_more (agrees first) rest n no_candidate (omega arith))
    ∙ ap (λ (b : Bool). not (b && agrees first (get_or rest n no_candidate))) agree
  where
    up_to : (first : Candidate) (rest : List Candidate) (n : ℕ) → conflicts (take (n + 1) (first ∷ rest)) ≡ not (list_all (agrees first) (take n rest))
    up_to first rest n =
        ap (λ (k : ℕ). conflicts (take k (first ∷ rest))) (add-one n) ∙ conflicts_where first (take n rest)

-- one section alone does not conflict
pub first_goes_on : (list : List Candidate) → 0 < length list → first_below 1 (λ k. conflicts (take (k + 1) list)) ≡ None
unfolding first_below
first_goes_on [] some = absurd (omega arith)
first_goes_on (first ∷ rest) some =
    first_below-more 0 (λ k. conflicts (take (k + 1) (first ∷ rest))) refl (conflicts_where first [])

pub first_is_largest : (list : List Candidate) → 0 < length list → is_largest (get_or list 0 no_candidate) ≡ list_any is_largest (take 1 list)
first_is_largest [] some = absurd (omega arith)
first_is_largest (first ∷ rest) some = sym (or-false (is_largest first))

-- no place conflicts: the whole list does not
pub goes_to_end : (list : List Candidate) → 0 < length list → conflict_place list ≡ None → conflicts list ≡ false
goes_to_end list some none =
    let last = length list - 1 in
    let all : last + 1 ≡ length list = omega arith in
    ap conflicts (sym (take_all (last + 1) list (omega arith)))
    ∙ first_below-none (length list) (λ k. conflicts (take (k + 1) list)) none last (omega arith)

-- ---- the choice

-- all of another selection: none is LARGEST
no_largest : (selection : ℕ) (list : List Candidate) → eqb selection 6 ≡ false → list_all (λ c. eqb c.selection selection) list ≡ true → list_any is_largest list ≡ false
no_largest selection [] other all = refl
no_largest selection (first ∷ rest) other all =
    let both = and_parts (eqb first.selection selection) (list_all (λ c. eqb c.selection selection) rest) all in
    or_from (is_largest first) (list_any is_largest rest) (other_selection first.selection selection 6 both.0 other) (no_largest selection rest other both.1)

choice_of : (alone any same_size exact by_size largest : Bool) (place : Option ℕ) (greatest : ℕ) → (alone ≡ true → greatest ≡ 0) → (any ≡ true → largest ≡ false) → (same_size ≡ true → largest ≡ false) → (exact ≡ true → largest ≡ false) → (by_size ≡ true → largest ≡ true) → place ≡ Some greatest → is_none (tabled alone any same_size exact by_size place) ≡ false → tabled alone any same_size exact by_size place ≡ Some (cond largest greatest 0)
unfolding tabled
choice_of true any same_size exact by_size true place greatest alone anys sizes exacts by found some = ap Some (sym (alone refl))
choice_of true any same_size exact by_size false place greatest alone anys sizes exacts by found some = refl
choice_of false true same_size exact by_size largest place greatest alone anys sizes exacts by found some = rw (anys refl) refl
choice_of false false true exact by_size largest place greatest alone anys sizes exacts by found some = rw (sizes refl) refl
choice_of false false false true by_size largest place greatest alone anys sizes exacts by found some = rw (exacts refl) refl
choice_of false false false false true largest place greatest alone anys sizes exacts by found some = rw (found, by refl) refl
choice_of false false false false false largest place greatest alone anys sizes exacts by found some = absurd (false≢true (sym some))

-- a list that does not conflict chooses the greatest where one is LARGEST, and else the first
pub chosen_is : (list : List Candidate) (greatest : ℕ) → conflicts list ≡ false → IsGreatestOf list (length list) greatest → chosen_place list ≡ Some (cond (list_any is_largest list) greatest 0)
unfolding tabled
chosen_is list greatest agree is =
    choice_of (is_alone list) (are_all_any list) (are_same_size list) (are_exact_match list) (goes_by_size list) (list_any is_largest list) (greatest_place list) greatest (λ e. let one = eqb-true (length list) 1 e in omega (arith, is.within, one)) (no_largest 2 list refl) (λ e. no_largest 3 list refl (and_parts (list_all is_same_size list) _ e).0) (λ e. no_largest 4 list refl (and_parts (list_all is_exact_match list) _ e).0) (λ e. (and_parts (list_all is_any_or_largest list) (list_any is_largest list) e).1) (greatest_is list greatest is) agree

-- what is chosen is the first, or the greatest
choice_from : (alone any same_size exact by_size : Bool) (place : Option ℕ) (chosen : ℕ) → tabled alone any same_size exact by_size place ≡ Some chosen → (chosen ≡ 0) ⊎ (place ≡ Some chosen)
unfolding tabled
choice_from true any same_size exact by_size place chosen e = inl (same_Some chosen 0 (sym e))
choice_from false true same_size exact by_size place chosen e = inl (same_Some chosen 0 (sym e))
choice_from false false true exact by_size place chosen e = inl (same_Some chosen 0 (sym e))
choice_from false false false true by_size place chosen e = inl (same_Some chosen 0 (sym e))
choice_from false false false false true place chosen e = inr (sym (or_none place) ∙ e)
choice_from false false false false false place chosen e = absurd cc

pub place_within : (list : List Candidate) (place : ℕ) → 0 < length list → chosen_place list ≡ Some place → place < length list
unfolding tabled
place_within list place some e =
    elim (choice_from (is_alone list) (are_all_any list) (are_same_size list) (are_exact_match list) (goes_by_size list) (greatest_place list) place e) [
      | inl first ↦ omega (arith, first, some)
      | inr greatest ↦
          (first_below-some (length list) place (λ k. list_all (is_at_most (size_at list k)) list) greatest).0
    ]

pub second_within : (list : List Candidate) (second : ℕ) → conflict_place list ≡ Some second → second < length list
second_within list second e = (first_below-some (length list) second (λ k. conflicts (take (k + 1) list)) e).0

-- ---- in a loop over places

pub conflict_here : (list : List Candidate) (place : ℕ) (agreed : Bool) → 0 < place → place < length list → first_below place (λ k. conflicts (take (k + 1) list)) ≡ None → agreed ≡ agrees (get_or list 0 no_candidate) (get_or list place no_candidate) → agreed ≡ false → conflict_place list ≡ Some place
conflict_here list place agreed low high none is fails =
    first_below-found place (length list) (λ k. conflicts (take (k + 1) list)) high none (conflicts_at list place low high none ∙ ap not (sym is ∙ fails))

pub goes_on_past : (list : List Candidate) (place : ℕ) (agreed : Bool) → 0 < place → place < length list → first_below place (λ k. conflicts (take (k + 1) list)) ≡ None → agreed ≡ agrees (get_or list 0 no_candidate) (get_or list place no_candidate) → agreed ≡ true → first_below (place + 1) (λ k. conflicts (take (k + 1) list)) ≡ None
goes_on_past list place agreed low high none is holds =
    first_below-more place (λ k. conflicts (take (k + 1) list)) none (conflicts_at list place low high none ∙ ap not (sym is ∙ holds))

-- the end of the list is reached
pub chosen_at_end : (list : List Candidate) (place greatest : ℕ) (by_size b : Bool) → 0 < length list → place ≡ length list → first_below place (λ k. conflicts (take (k + 1) list)) ≡ None → by_size ≡ list_any is_largest (take place list) → IsGreatestOf list place greatest → by_size ≡ b → chosen_place list ≡ Some (cond b greatest 0)
chosen_at_end list place greatest by_size b some end none largest is holds =
    chosen_is list greatest (goes_to_end list some (subst (λ (n : ℕ). first_below n (λ k. conflicts (take (k + 1) list)) ≡ None) end none)) (subst (λ (n : ℕ). IsGreatestOf list n greatest) end is)
    ∙ ap (λ (l : Bool). Some (cond l greatest 0)) (ap (list_any is_largest) (sym (take_all place list (omega (arith, end)))) ∙ sym largest ∙ holds)

-- ---- a group of ANY alone

any_taken : (n : ℕ) (list : List Candidate) → are_all_any list ≡ true → are_all_any (take n list) ≡ true
any_taken zero list all = refl
any_taken (suc n) [] all = refl
any_taken (suc n) (first ∷ rest) all =
    let both = and_parts (is_any first) (are_all_any rest) all in
    and_from (is_any first) (are_all_any (take n rest)) both.0 (any_taken n rest both.1)

-- it chooses its first
pub any_chosen : (list : List Candidate) → are_all_any list ≡ true → chosen_place list ≡ Some 0
unfolding tabled
any_chosen list all =
    go (is_alone list) (are_all_any list) (are_same_size list) (are_exact_match list) (goes_by_size list) (greatest_place list) all
  where
    go : (alone any same_size exact by_size : Bool) (place : Option ℕ) → any ≡ true → tabled alone any same_size exact by_size place ≡ Some 0
    go true any same_size exact by_size place all = refl
    go false true same_size exact by_size place all = refl
    go false false same_size exact by_size place all = absurd (false≢true all)

-- and does not conflict
pub any_agree : (list : List Candidate) → are_all_any list ≡ true → conflict_place list ≡ None
any_agree list all =
    first_below-all_fail (length list) (λ k. conflicts (take (k + 1) list)) (λ k lt. ap is_none (any_chosen (take (k + 1) list) (any_taken (k + 1) list all)))
