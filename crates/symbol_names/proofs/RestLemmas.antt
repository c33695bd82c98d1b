-- The rests of names that begin with the import prefix get numbers.
use Rattle.std.proofs.Common.{◌≡◌, ◌⊎◌, inl, inr, ℕ, ◌+◌, ◌<◌, ◌≤◌, true, false, List, [], length, get_or, sym, ap, subst, ◌∙◌, arith}
use Rattle.std.proofs.lemmas.Bool.{false≢true, cases_order}
use Rattle.std.proofs.lemmas.Option.{slice_get_within, slice_get-get_or}
use Rattle.link_base.specs.NameText.{begins_import, behind_import}
use Rattle.symbol_names.specs.Interning.{Numbers, KeepsNumbers}
use Rattle.symbol_names.proofs.NumberLemmas.{one_name, keeps_both}
use Rattle.symbol_names.specs.Rests.{IsNumbered, HasRestsBut}

-- ---- one name more

-- a name that has an old number had it before
numbered_before : (before after : List (List ℕ)) (number : ℕ) (name : List ℕ) → KeepsNumbers before after → number < length before → Numbers after number name → Numbers before number name
numbered_before before after number name kept less numbered =
    let was = slice_get-get_or before number [] less in
    subst (Numbers before number) (one_name after number (get_or before number []) name (kept number (get_or before number []) was) numbered) was

still_numbered : (before after : List (List ℕ)) (name : List ℕ) → KeepsNumbers before after → IsNumbered before name → IsNumbered after name
still_numbered before after name kept is = record { number = is.number; numbered = kept is.number name is.numbered }

-- ---- the rests of one name

abbrev pub IsNear : ℕ → ℕ → ℕ → Type 0
IsNear number count k = (k < number + 1) ⊎ (count ≤ k)

-- the rest of the name of a number, and of the rests of it, have numbers, but for that of the last
pub record NotesRests (before names : List (List ℕ)) (number : ℕ) (rest : List ℕ) : Type 0 where
  pub kept : KeepsNumbers before names
  pub long : length before ≤ length names
  pub noted : (count : ℕ) → count ≤ length before → HasRestsBut before number count → (k : ℕ) (name : List ℕ) → Numbers names k name → IsNear number count k → begins_import name ≡ true → IsNumbered names (behind_import name) ⊎ (name ≡ rest)

pub rests_more : (before names after : List (List ℕ)) (number : ℕ) (rest behind : List ℕ) (at : ℕ) → KeepsNumbers names after → length names ≤ length after → Numbers after at behind → ((k : ℕ) (other : List ℕ) → Numbers after k other → length names ≤ k → other ≡ behind) → behind ≡ behind_import rest → NotesRests before names number rest → NotesRests before after number behind
rests_more before names after number rest behind at kept longer there alone is was = record {
  kept = keeps_both before names after was.kept kept;
  long = omega (arith, was.long, longer);
  noted = λ count le has k name numbered near begins. elim (cases_order k (length names)) [
    | inl same ↦ inr (alone k name numbered (omega (arith, same)))
    | inr differ ↦ elim differ [
      | inl below ↦ old k name (was.noted count le has k name (numbered_before names after k name kept below numbered) near begins)
      | inr above ↦ inr (alone k name numbered (omega (arith, above)))
    ]
  ];
}
  where
    old : (k : ℕ) (name : List ℕ) → IsNumbered names (behind_import name) ⊎ (name ≡ rest) → IsNumbered after (behind_import name) ⊎ (name ≡ behind)
    old k name (inl numbered) = inl (still_numbered names after (behind_import name) kept numbered)
    old k name (inr same) = inl (subst (IsNumbered after) (is ∙ ap behind_import (sym same)) (record { number = at; numbered = there }))

pub rests_end : (before names : List (List ℕ)) (number : ℕ) (rest : List ℕ) (count : ℕ) → begins_import rest ≡ false → NotesRests before names number rest → count ≤ length before → HasRestsBut before number count → HasRestsBut names (number + 1) count
rests_end before names number rest count plain is le has = λ k name numbered near begins.
    elim (is.noted count le has k name numbered near begins) [
      | inl there ↦ there
      | inr same ↦ absurd (false≢true (sym plain ∙ ap begins_import (sym same) ∙ begins))
    ]

-- what is left has an old number: it is asked for by itself
pub rests_stop : (before names after : List (List ℕ)) (number : ℕ) (rest behind : List ℕ) (at : ℕ) → KeepsNumbers names after → length after ≡ length names → Numbers after at behind → behind ≡ behind_import rest → NotesRests before names number rest → (count : ℕ) → count ≤ length before → HasRestsBut before number count → HasRestsBut after (number + 1) count
rests_stop before names after number rest behind at kept same_len there is was count le has = λ k name numbered near begins.
    old k name (was.noted count le has k name (numbered_before names after k name kept (omega (arith, same_len, slice_get_within after k name numbered)) numbered) near begins)
  where
    old : (k : ℕ) (name : List ℕ) → IsNumbered names (behind_import name) ⊎ (name ≡ rest) → IsNumbered after (behind_import name)
    old k name (inl numbered) = still_numbered names after (behind_import name) kept numbered
    old k name (inr same) = subst (IsNumbered after) (is ∙ ap behind_import (sym same)) (record { number = at; numbered = there })

-- ---- the rests of all names

pub record RestsSoFar (before names : List (List ℕ)) (number : ℕ) : Type 0 where
  pub kept : KeepsNumbers before names
  pub long : length before ≤ length names
  pub noted : HasRestsBut names number (length before)
