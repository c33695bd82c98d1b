-- Whose sections pieces are, one candidate more.
use Rattle.std.proofs.Common.{◌≡◌, ℕ, zero, suc, ◌+◌, inl, inr, List, length, get_or, replicate, Option, Some, None, IsSome, slice_get, refl, sym, ap, ◌∙◌, subst, arith}
use Rattle.std.proofs.lemmas.Bool.{cases_lt, false≢true}
use Rattle.std.proofs.lemmas.Option.{slice_get_within}
use Rattle.std.proofs.Math.ListN.{length-replicate}
use Rattle.icf.specs.declared.candidate.FoldCandidate.{FoldCandidate}
use Rattle.icf.specs.declared.field.Owner.{Owner}
use Rattle.icf.specs.Sections.{sections_at, HasSection, AreCandidates}
use Rattle.icf.specs.Owners.{owner_at, WithSections, AreOwnersBelow, AreOwners}
use Rattle.icf.proofs.SectionLemmas.{candidate_there}

nothing_at : (count piece : ℕ) → get_or (replicate {A = Option Owner} count None) piece None ≡ None
nothing_at zero piece = refl
nothing_at (suc count) zero = refl
nothing_at (suc count) (suc piece) = nothing_at count piece

some_owner : (o : Option Owner) (owner : Owner) → o ≡ None → o ≡ Some owner → ⊥
some_owner o owner none some = cc

module _ (candidates : List FoldCandidate) (pieces : ℕ) where
  pub owners_none : (owners : List (Option Owner)) → owners ≡ replicate pieces None → AreOwnersBelow candidates pieces 0 owners
  owners_none owners none = subst (AreOwnersBelow candidates pieces 0) (sym none) (record {
    same_length = length-replicate pieces None;
    right = λ piece owner is. absurd (some_owner _ owner (nothing_at pieces piece) is);
    noted = λ number rank piece lt has. absurd (omega arith);
  })

  pub owners_more : (number : ℕ) (sections : List ℕ) (old new : List (Option Owner)) → sections_at candidates number ≡ sections → AreOwnersBelow candidates pieces number old → WithSections number sections (length sections) old new
      → AreOwnersBelow candidates pieces (number + 1) new
  owners_more number sections old new are so_far taken = record {
    same_length = taken.same_length ∙ so_far.same_length;
    right = λ piece owner is. elim (taken.right piece owner is) [
      | inl before ↦ so_far.right piece owner before
      | inr here ↦
          subst (λ (n : ℕ). HasSection candidates n owner.rank piece) (sym here.0)
          (subst (λ (own : List ℕ). slice_get own owner.rank ≡ Some piece) (sym are) here.1)
    ];
    noted = λ other rank piece lt has. elim (cases_lt other number) [
      | inl low ↦ taken.stays piece (so_far.noted other rank piece low has)
      | inr high ↦
          let same : other ≡ number = omega arith in
          let there : slice_get sections rank ≡ Some piece = subst (λ (own : List ℕ). slice_get own rank ≡ Some piece) (ap (sections_at candidates) same ∙ are) has in
          taken.noted rank piece (slice_get_within sections rank piece there) there
    ];
  }

  pub owners_all : (owners : List (Option Owner)) → AreCandidates pieces candidates → AreOwnersBelow candidates pieces (length candidates) owners → AreOwners candidates pieces owners
  owners_all owners are all = record {
    same_length = all.same_length;
    right = all.right;
    every = λ number rank piece has.
        by number rank piece has (owner_at owners piece) refl (all.noted number rank piece (candidate_there candidates number rank piece has) has);
  }
    where
      by : (number rank piece : ℕ) → HasSection candidates number rank piece → (o : Option Owner) → owner_at owners piece ≡ o → IsSome o → o ≡ Some (record { candidate = number; rank = rank })
      by number rank piece has None is none = absurd (false≢true none)
      by number rank piece has (Some owner) is some =
          let same = are.distinct owner.candidate owner.rank number rank piece (all.right piece owner is) has in
          ap (λ (n : ℕ). Some (record { candidate = n; rank = owner.rank })) same.0 ∙ ap (λ (r : ℕ). Some (record { candidate = number; rank = r })) same.1
