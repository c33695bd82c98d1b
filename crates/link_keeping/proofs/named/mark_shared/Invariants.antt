use Rattle.std.proofs.Common.{◌≡◌, ◌<◌, ◌||◌, ℕ, false, length, map, get_or}
use Rattle.std.specs.List.{list_any, range_with_len}
use Rattle.section_group.specs.BarePieces.{bare}
use Rattle.link_pieces.specs.LinkParts.{LinkParts}
use Rattle.link_pieces.specs.Pieces.{link_pieces}
use Rattle.link_keeping.specs.Named.{is_named_at}
use Rattle.link_keeping.proofs.named.mark_shared.Given as goal

abbrev pub invariant-loop-k : goal.invariant-loop-k
invariant-loop-k l = record {
  same_length : length l.meant.items ≡ length l.fn.meant.items;
  marked : (k : ℕ) (link : LinkParts) → map bare l.pieces ≡ link_pieces link → k < length l.fn.meant.items → get_or l.meant.items k false ≡ (get_or l.fn.meant.items k false || list_any (is_named_at link l.places k) (range_with_len 0 l.k));
}
