-- Whose sections pieces are, as the code notes it. It decides nothing.
use Rattle.std.specs.Prelude.{◌≡◌, ℕ, ◌<◌, ◌⊎◌, List, length, slice_get, slice_index_or, Option, Some, None, IsSome}
use Rattle.icf.specs.declared.field.Owner.{Owner}
use Rattle.icf.specs.declared.candidate.FoldCandidate.{FoldCandidate}
use Rattle.icf.specs.Sections.{HasSection}

abbrev pub owner_at : List (Option Owner) → ℕ → Option Owner
owner_at owners piece = slice_index_or owners piece None

-- the first sections of a candidate were noted, and nothing else
pub record WithSections (number : ℕ) (sections : List ℕ) (count : ℕ) (old new : List (Option Owner)) : Type 0 where
  pub same_length : length new ≡ length old
  pub right : (piece : ℕ) (owner : Owner) → owner_at new piece ≡ Some owner
      → (owner_at old piece ≡ Some owner) ⊎ ((owner.candidate ≡ number) × (slice_get sections owner.rank ≡ Some piece))
  pub noted : (rank piece : ℕ) → rank < count → slice_get sections rank ≡ Some piece → IsSome (owner_at new piece)
  pub stays : (piece : ℕ) → IsSome (owner_at old piece) → IsSome (owner_at new piece)

-- the sections of the first candidates are noted
pub record AreOwnersBelow (candidates : List FoldCandidate) (pieces count : ℕ) (owners : List (Option Owner)) : Type 0 where
  pub same_length : length owners ≡ pieces
  pub right : (piece : ℕ) (owner : Owner) → owner_at owners piece ≡ Some owner → HasSection candidates owner.candidate owner.rank piece
  pub noted : (number rank piece : ℕ) → number < count → HasSection candidates number rank piece → IsSome (owner_at owners piece)

-- each piece that is a section of a candidate has it as its owner, and no other piece has one
pub record AreOwners (candidates : List FoldCandidate) (pieces : ℕ) (owners : List (Option Owner)) : Type 0 where
  pub same_length : length owners ≡ pieces
  pub right : (piece : ℕ) (owner : Owner) → owner_at owners piece ≡ Some owner → HasSection candidates owner.candidate owner.rank piece
  pub every : (number rank piece : ℕ) → HasSection candidates number rank piece → owner_at owners piece ≡ Some (record { candidate = number; rank = rank })
