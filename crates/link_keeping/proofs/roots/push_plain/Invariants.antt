use Rattle.std.proofs.Common.{◌≡◌, ◌++◌, length, map, filter}
use Rattle.std.specs.List.{range_with_len}
use Rattle.section_group.specs.BarePieces.{bare}
use Rattle.link_pieces.specs.LinkParts.{LinkParts}
use Rattle.link_pieces.specs.Pieces.{link_pieces}
use Rattle.link_keeping.specs.Reach.{is_plain}
use Rattle.link_keeping.proofs.roots.push_plain.Given as goal

abbrev pub invariant-loop-k : goal.invariant-loop-k
invariant-loop-k l = (link : LinkParts) → map bare l.pieces ≡ link_pieces link → l.modules ≡ length link.modules → l.nodes.items ≡ l.fn.nodes.items ++ filter (is_plain link) (range_with_len 0 l.k)
