-- What callers may cite of the places of pieces.
use Rattle.std.proofs.Common.{◌≡◌, ℕ, ◌<◌, ◌≤◌, Bool, true, false, List, length, get_or}
use Rattle.relocate.specs.Redirected.{place_of}
use Rattle.link_pieces.specs.LinkParts.{LinkParts}
use Rattle.link_pieces.specs.Pieces.{link_pieces}
use Rattle.link_fields.specs.Fixes.{piece_at}
use Rattle.link_folding.specs.Places.{IsFolded, stands_alone}
use Rattle.link_folding.proofs.OneLemmas.{same_places}
use Rattle.link_folding.proofs.PlaceLemmas.{stands, within, as_long, beyond}

-- a kept piece stands at the place of one that is kept and stands at its own
pub place_stands : (link : LinkParts) (kept : List Bool) (places : List ℕ) (k : ℕ) → IsFolded link kept places → get_or kept k false ≡ true → stands_alone kept places (place_of places k) ≡ true
place_stands link kept places k folded is_kept = stands link kept places folded k is_kept

-- the place of a piece of the link is one
pub place_within : (link : LinkParts) (kept : List Bool) (places : List ℕ) (k : ℕ) → IsFolded link kept places → k < length (link_pieces link) → place_of places k < length (link_pieces link)
place_within link kept places k folded lt = within link kept places folded k lt

-- of the same size
pub place_size : (link : LinkParts) (kept : List Bool) (places : List ℕ) (k : ℕ) → IsFolded link kept places → k < length (link_pieces link) → (piece_at link (place_of places k)).size ≡ (piece_at link k).size
place_size link kept places k folded lt = as_long link kept places folded k

-- and what is no piece stands at its own place
pub place_beyond : (link : LinkParts) (kept : List Bool) (places : List ℕ) (k : ℕ) → IsFolded link kept places → length (link_pieces link) ≤ k → place_of places k ≡ k
place_beyond link kept places k folded le = beyond link kept places folded k le

-- a link has one folding
pub one_folding : (link : LinkParts) (kept : List Bool) (a b : List ℕ) → IsFolded link kept a → IsFolded link kept b → a ≡ b
one_folding link kept a b one other = same_places link kept a b one other
