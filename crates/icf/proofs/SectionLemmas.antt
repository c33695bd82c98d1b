-- The sections of candidates.
use Rattle.std.proofs.Common.{◌≡◌, ℕ, zero, suc, ◌+◌, ◌<◌, ◌≤◌, List, [], ◌∷◌, ◌++◌, length, get_or, take, Option, Some, None, option_map, unwrap_or, slice_get, refl, sym, ap, ◌∙◌, subst, arith}
use Rattle.std.proofs.lemmas.List.{take_more}
use Rattle.std.proofs.lemmas.Option.{slice_get_within, slice_get-get_or, get_or_from_slice_get, same_Some}
use Rattle.icf.specs.declared.candidate.FoldCandidate.{FoldCandidate}
use Rattle.icf.specs.Sections.{sections_of, sections_at, HasSection, AreCandidates}

-- the sections of a candidate of the list
pub sections_there : (candidates : List FoldCandidate) (number : ℕ) (candidate : FoldCandidate) → slice_get candidates number ≡ Some candidate → sections_at candidates number ≡ sections_of candidate
sections_there candidates number candidate is = ap (λ (o : Option FoldCandidate). unwrap_or (option_map sections_of o) []) is

pub sections_read : (candidates : List FoldCandidate) (number : ℕ) (candidate : FoldCandidate) → number < length candidates → candidate ≡ get_or candidates number candidate → sections_at candidates number ≡ sections_of candidate
sections_read candidates number candidate lt is =
    sections_there candidates number candidate (slice_get-get_or candidates number candidate lt ∙ ap Some (sym is))

-- what has sections is a candidate
pub candidate_there : (candidates : List FoldCandidate) (number rank piece : ℕ) → HasSection candidates number rank piece → number < length candidates
candidate_there candidates number rank piece has = by (slice_get candidates number) refl has
  where
    by : (found : Option FoldCandidate) → slice_get candidates number ≡ found → slice_get (unwrap_or (option_map sections_of found) []) rank ≡ Some piece → number < length candidates
    by None is e = absurd cc
    by (Some candidate) is e = slice_get_within candidates number candidate is

-- a rank below the number of sections has one
pub section_there : (sections : List ℕ) (rank : ℕ) → rank < length sections → slice_get sections rank ≡ Some (get_or sections rank 0)
section_there sections rank lt = slice_get-get_or sections rank 0 lt

-- two sections of one rank are one
pub one_section : (sections : List ℕ) (rank piece other : ℕ) → slice_get sections rank ≡ Some piece → slice_get sections rank ≡ Some other → piece ≡ other
one_section sections rank piece other is is' = same_Some piece other (sym is ∙ is')

-- candidates ascend, so that no number is above that of the piece
pub number_below : (pieces : ℕ) (candidates : List FoldCandidate) → AreCandidates pieces candidates → (number : ℕ) (d : FoldCandidate) → number < length candidates → number ≤ (get_or candidates number d).piece
number_below pieces candidates are zero d lt = omega arith
number_below pieces candidates are (suc number) d lt =
    let before = number_below pieces candidates are number d (omega arith) in
    let next = are.ascending number (suc number) d (omega arith) lt in
    omega arith

-- one more section is taken
pub take_section : (sections : List ℕ) (rank piece : ℕ) → slice_get sections rank ≡ Some piece → take (rank + 1) sections ≡ take rank sections ++ piece ∷ []
take_section sections rank piece is =
    take_more sections rank 0 (slice_get_within sections rank piece is)
    ∙ ap (λ (p : ℕ). take rank sections ++ p ∷ []) (get_or_from_slice_get sections rank piece 0 is)

-- what holds of the pieces of all sections holds of those of one candidate
pub within_there : (candidates : List FoldCandidate) (bound : ℕ) → ((number rank piece : ℕ) → HasSection candidates number rank piece → piece < bound) → (number : ℕ) (candidate : FoldCandidate) → number < length candidates
    → candidate ≡ get_or candidates number candidate → (rank piece : ℕ) → slice_get (sections_of candidate) rank ≡ Some piece → piece < bound
within_there candidates bound within number candidate lt is rank piece there =
    within number rank piece (subst (λ (own : List ℕ). slice_get own rank ≡ Some piece) (sym (sections_read candidates number candidate lt is)) there)
