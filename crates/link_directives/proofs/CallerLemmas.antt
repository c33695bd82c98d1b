-- What callers may cite: what holds of an alignment and of each power of two, holds of the raised one.
use Rattle.std.proofs.Common.{◌≡◌, ℕ, ◌≤◌, ◌^◌, Bool, true, false, cond, List, [], ◌∷◌, Some, None, inl, inr, subst, arith, min, max, fold}
use Rattle.std.specs.List.{cons_option, filter_map}
use Rattle.std.proofs.lemmas.Bool.{cases_lt}
use Rattle.link_base.specs.NameText.{same_name}
use Rattle.directives.specs.Said.{Said}
use Rattle.directives.specs.Said as says
use Rattle.module_view.specs.Module.{ModuleView}
use Rattle.link_directives.specs.LinkDirectives.{all_directives, asked_alignment, asked_by, raised_alignment}

max_holds : (P : ℕ → Type 0) (a b : ℕ) → P a → P b → P (max a b)
max_holds P a b first second =
    elim (cases_lt a b) [
      | inl lt ↦ let is : b ≡ max a b = omega arith in subst P is second
      | inr le ↦ let is : a ≡ max a b = omega arith in subst P is first
    ]

-- one more is asked, or none
next_holds : (P : ℕ → Type 0) (b : Bool) (asked alignment : ℕ) (rest : List ℕ) → ((start : ℕ) → P start → P (fold max start rest)) → P alignment → P asked → P (fold max alignment (cons_option (cond b (Some asked) None) rest))
next_holds P true asked alignment rest more here there = more (max alignment asked) (max_holds P alignment asked here there)
next_holds P false asked alignment rest more here there = more alignment here

asked_holds : (P : ℕ → Type 0) (name : List ℕ) (said : List Said) (alignment : ℕ) → P alignment → ((log : ℕ) → log ≤ 13 → P (2 ^ log)) → P (fold max alignment (filter_map (asked_by name) said))
asked_holds P name [] alignment here powers = here
asked_holds P name (says.AlignComm other log ∷ rest) alignment here powers =
    next_holds P (same_name other name) (asked_alignment log) alignment (filter_map (asked_by name) rest) (λ start holds. asked_holds P name rest start holds powers) here (powers (min log 13) (omega arith))
asked_holds P name (says.AlternateName left right ∷ rest) alignment here powers = asked_holds P name rest alignment here powers
asked_holds P name (says.DefaultLib text ∷ rest) alignment here powers = asked_holds P name rest alignment here powers
asked_holds P name (says.Exports row ∷ rest) alignment here powers = asked_holds P name rest alignment here powers
asked_holds P name (says.FailIfMismatch key value ∷ rest) alignment here powers = asked_holds P name rest alignment here powers
asked_holds P name (says.Include other ∷ rest) alignment here powers = asked_holds P name rest alignment here powers
asked_holds P name (says.Merge left right ∷ rest) alignment here powers = asked_holds P name rest alignment here powers

pub raised_holds : (P : ℕ → Type 0) (modules : List ModuleView) (name : List ℕ) (alignment : ℕ) → P alignment → ((log : ℕ) → log ≤ 13 → P (2 ^ log)) → P (raised_alignment modules name alignment)
unfolding raised_alignment
raised_holds P modules name alignment here powers = asked_holds P name (all_directives modules) alignment here powers
