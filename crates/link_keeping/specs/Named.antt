-- Which pieces stand in a section even where they have no bytes: those that fields of what is kept mean, the entry, an export or
-- what a loader looks for, and those at whose places pieces stand that are named. Own.
use Rattle.std.specs.Prelude.{◌≡◌, ◌<◌, ℕ, Bool, true, false, ◌&&◌, ◌||◌, ◌==◌, List, slice_index_or}
use Rattle.section_group.specs.declared.piece.Piece.{Piece}
use Rattle.relocate.specs.Redirected.{place_of}
use Rattle.link_pieces.specs.LinkParts.{LinkParts}
use Rattle.link_fields.specs.Fixes.{piece_at}

-- a field of a piece that is kept means it, or one that stands at its place
abbrev pub leads_there : List Bool → List ℕ → ℕ → ℕ × ℕ → Bool
leads_there kept places k edge = slice_index_or kept edge.0 false && (place_of places edge.1 == k)

-- where a piece is kept that an edge begins at, it leads to one of the first nodes
abbrev pub LeadsWithin : List Bool → ℕ → ℕ × ℕ → Type 0
LeadsWithin kept count edge = slice_index_or kept edge.0 false ≡ true → edge.1 < count

-- the entry, an export or what a loader looks for is there
abbrev pub is_at : List ℕ → ℕ → ℕ → Bool
is_at places k node = place_of places node == k

-- a piece that is named stands there
abbrev pub is_named_at : LinkParts → List ℕ → ℕ → ℕ → Bool
is_named_at link places k other = (place_of places other == k) && (piece_at link other).named

abbrev pub named_if : Bool → Piece → Piece
named_if meant piece = record piece { named = piece.named || meant }
