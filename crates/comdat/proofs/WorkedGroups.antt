-- The definitions on small groups.
use Rattle.std.proofs.Common.{◌≡◌, ℕ, true, false, List, [], ◌∷◌, None, Some, map, refl}
use Rattle.link_base.specs.Bytes.{first_below}
use Rattle.coff_aux.specs.AuxRecords.{COMDAT_SELECT_NODUPLICATES, COMDAT_SELECT_ANY, COMDAT_SELECT_SAME_SIZE, COMDAT_SELECT_LARGEST}
use Rattle.link_base.specs.Refusals.{first_refusal_below}
use Rattle.coff_aux.specs.Parents.{ancestor}
use Rattle.comdat.specs.declared.candidate.Candidate.{Candidate}
use Rattle.comdat.specs.declared.error.ChooseError.TheVariants as error
use Rattle.comdat.specs.Choice.{chosen_place, conflict_place}
use Rattle.comdat.specs.Groups.{Named, is_selected, first_conflict}
use Rattle.comdat.specs.Chains.{chain_end}

sized : ℕ → ℕ → Candidate
sized selection size =
    record { «module» = 0; section = 1; selection = selection; size = size; body = None }

any : ℕ → Candidate
any size = sized COMDAT_SELECT_ANY size

largest : ℕ → Candidate
largest size = sized COMDAT_SELECT_LARGEST size

-- two ANY
two_any : chosen_place (any 4 ∷ any 8 ∷ []) ≡ Some 0
unfolding any sized first_below
two_any = refl

-- LARGEST 8, LARGEST 8, ANY 4
first_of_equals : chosen_place (largest 8 ∷ largest 8 ∷ any 4 ∷ []) ≡ Some 0
unfolding any largest sized first_below
first_of_equals = refl

-- ANY 4, LARGEST 8, LARGEST 8
greatest_of_all : chosen_place (any 4 ∷ largest 8 ∷ largest 8 ∷ []) ≡ Some 1
unfolding any largest sized first_below
greatest_of_all = refl

-- SAME_SIZE 2 and 3
other_size : conflict_place (sized COMDAT_SELECT_SAME_SIZE 2 ∷ sized COMDAT_SELECT_SAME_SIZE 3 ∷ []) ≡ Some 1
unfolding sized first_below
other_size = refl

-- NODUPLICATES, alone and twice
one_alone : chosen_place (sized COMDAT_SELECT_NODUPLICATES 4 ∷ []) ≡ Some 0
unfolding sized first_below
one_alone = refl

one_twice : conflict_place (sized COMDAT_SELECT_NODUPLICATES 4 ∷ sized COMDAT_SELECT_NODUPLICATES 4 ∷ []) ≡ Some 1
unfolding sized first_below
one_twice = refl

-- ---- several groups

under : ℕ → ℕ → Candidate → Named
under name position candidate = record { name = name ∷ []; candidate = record candidate { «module» = position } }

-- `a` of the modules 0 and 1, and `b` of 1 and 2, which is the greater one
named : List Named
named = under 97 0 (any 4) ∷ under 97 1 (any 8) ∷ under 98 1 (largest 4) ∷ under 98 2 (largest 8) ∷ []

selected : map (is_selected named) named ≡ true ∷ false ∷ false ∷ true ∷ []
unfolding named under any largest sized first_below
selected = refl

-- `a` conflicts at a later section than `b`, but its first section is the earlier one
both_conflict : first_conflict (under 97 0 (sized COMDAT_SELECT_SAME_SIZE 2) ∷ under 98 1 (sized COMDAT_SELECT_NODUPLICATES 4) ∷ under 98 2 (sized COMDAT_SELECT_NODUPLICATES 4) ∷ under 97 3 (sized COMDAT_SELECT_SAME_SIZE 3) ∷ []) ≡ Some (error.Conflict (97 ∷ []) 0 3)
unfolding under sized first_below first_refusal_below
both_conflict = refl

-- ---- chains

-- 3 is selected with 2, and 2 with 4
end_of_chain : chain_end (0 ∷ 0 ∷ 4 ∷ 2 ∷ 0 ∷ []) 3 ≡ 4
unfolding chain_end ancestor first_below
end_of_chain = refl
