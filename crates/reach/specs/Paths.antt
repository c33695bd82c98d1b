-- Which pieces are kept: those that a path of edges comes to from a root. Pieces are numbered from 0; an edge leads from
-- its first number to its second.
use Rattle.std.specs.Prelude.{◌≡◌, ℕ, ◌-◌, ◌<◌, List, Some, length, slice_get, All, Contains}
use Rattle.std.specs.List.{AllAdjacentBelow}

-- an edge leads from one number to another (own; the rule of /OPT:REF, MSVC linker reference)
abbrev pub LeadsTo : List (ℕ × ℕ) → ℕ → ℕ → Type 0
LeadsTo edges from to = Contains edges (from, to)

-- a path is a list of pieces, of which each next one is led to by an edge from the one before (own; as above)
pub record IsPath (pieces : ℕ) (edges : List (ℕ × ℕ)) (path : List ℕ) : Type 0 where
  pub of_pieces : All (λ piece. piece < pieces) path
  pub led : AllAdjacentBelow (LeadsTo edges) path (length path)

-- a piece is kept where it is a root, or the last of a path whose first is a root; a root alone is such a path (own; as
-- above)
pub record IsKept (pieces : ℕ) (edges : List (ℕ × ℕ)) (roots : List ℕ) (piece : ℕ) : Type 0 where
  pub path : List ℕ
  pub is_path : IsPath pieces edges path
  pub root : ℕ
  pub is_root : Contains roots root
  pub first : slice_get path 0 ≡ Some root
  pub last : slice_get path (length path - 1) ≡ Some piece
