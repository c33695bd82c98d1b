-- What callers may cite: conflicts are closed, and where a chain ends.
use Rattle.std.proofs.Common.{◌≡◌, ◌≤◌, ℕ, Bool, true, false, not, ◌&&◌, Option, None, Some, List, [], ◌∷◌, ◌++◌, refl, sym, ap, ◌∙◌, arith}
use Rattle.std.specs.Prelude.{is_none}
use Rattle.std.specs.Option.{option_and_then}
use Rattle.coff_records.specs.ObjectFile.{section_total}
use Rattle.coff_aux.specs.declared.comdat.Comdat.{Comdat}
use Rattle.coff_aux.specs.Comdats.{comdat_of, parents_of}
use Rattle.comdat.specs.Chains.{chain_end}
use Rattle.comdat.specs.ChosenBy.{parent_by, by_parent_or_leader, chosen_by_said}
use Rattle.comdat.proofs.ChainLemmas.{end_here}
use Rattle.comdat.proofs.OpenedLemmas.{parent_count}
use Rattle.comdat.proofs.RowEndLemmas.{parent_is}
use Rattle.std.specs.List.{list_all}
use Rattle.std.proofs.lemmas.Bool.{not-true, false≢true}
use Rattle.std.proofs.lemmas.List.Folds.{list_all-append}
use Rattle.comdat.specs.declared.candidate.Candidate.{Candidate}
use Rattle.comdat.specs.Choice.{conflicts}
use Rattle.comdat.specs.Steps.{agrees}
use Rattle.comdat.proofs.ChoiceLemmas.{conflicts_where}

-- where a list conflicts, so does every longer one
pub conflicts_longer : (list more : List Candidate) → conflicts list ≡ true → conflicts (list ++ more) ≡ true
conflicts_longer [] more is = absurd cc
conflicts_longer (first ∷ rest) more is =
    let fails : list_all (agrees first) rest ≡ false = not-true (list_all (agrees first) rest) (sym (conflicts_where first rest) ∙ is) in
    conflicts_where first (rest ++ more)
    ∙ ap not (list_all-append (agrees first) rest more ∙ ap (λ (b : Bool). b && list_all (agrees first) more) fails)

-- ---- where chains end

own_parent : (count : ℕ) (said : Option Comdat) → is_none (option_and_then (λ comdat. comdat.parent) said) ≡ true → parent_by count (chosen_by_said said) ≡ 0
own_parent count None own = refl
own_parent count (Some said) own = go said.parent said.leader own
  where
    go : (parent : Option ℕ) (leader : Option (List ℕ)) → is_none parent ≡ true → parent_by count (by_parent_or_leader parent leader) ≡ 0
    go (Some parent) leader own = absurd (false≢true own)
    go None None own = refl
    go None (Some leader) own = refl

-- a section without a parent is the end of its chain
pub own_end : (bytes : List ℕ) (section : ℕ) → 1 ≤ section → section ≤ section_total bytes → is_none (option_and_then (λ comdat. comdat.parent) (comdat_of bytes section)) ≡ true → chain_end (parents_of bytes) section ≡ section
own_end bytes section first last own =
    end_here (parents_of bytes) section (omega (arith, last, parent_count bytes))
    (parent_is bytes section first (omega (arith, last)) ∙ own_parent (section_total bytes) (comdat_of bytes section) own)
