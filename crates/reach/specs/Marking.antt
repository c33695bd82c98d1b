-- What marking does. It decides nothing.
use Rattle.std.specs.Prelude.{◌≡◌, ℕ, ◌+◌, ◌<◌, ◌⊎◌, Bool, true, false, not, List, length, count_by, slice_index_or, Contains}
use Rattle.reach.specs.Paths.{LeadsTo}
use Rattle.reach.specs.declared.marking.Marking.{Marking}

-- a piece is marked
abbrev pub IsMarked : List Bool → ℕ → Type 0
IsMarked kept piece = slice_index_or kept piece false ≡ true

-- each piece that an edge of a piece leads to is marked
abbrev pub IsFollowed : ℕ → List (ℕ × ℕ) → List Bool → ℕ → Type 0
IsFollowed pieces edges kept piece = (next : ℕ) → next < pieces → LeadsTo edges piece next → IsMarked kept next

-- the pieces that are not marked, and those whose edges are still to be followed
abbrev pub work_left : Marking → ℕ
work_left marking = count_by not marking.kept.items + length marking.pending.items

-- some numbers of a kind are marked, and pending from then on
pub record Marks (Kind : ℕ → Type 0) (old new : Marking) : Type 0 where
  pub same_length : length new.kept.items ≡ length old.kept.items
  pub stays : (piece : ℕ) → IsMarked old.kept.items piece → IsMarked new.kept.items piece
  pub marks : (piece : ℕ) → IsMarked new.kept.items piece → IsMarked old.kept.items piece ⊎ (Kind piece × Contains new.pending.items piece)
  pub stays_pending : (piece : ℕ) → Contains old.pending.items piece → Contains new.pending.items piece
  pub makes_pending : (piece : ℕ) → Contains new.pending.items piece → Contains old.pending.items piece ⊎ IsMarked new.kept.items piece
  pub work : work_left new ≡ work_left old
