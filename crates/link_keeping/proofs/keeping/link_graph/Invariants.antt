use Rattle.std.proofs.Common.{◌≡◌, ◌++◌, map}
use Rattle.std.specs.Prelude.{filter_map}
use Rattle.std.specs.List.{range_with_len}
use Rattle.section_group.specs.BarePieces.{bare}
use Rattle.link_pieces.specs.LinkParts.{LinkParts}
use Rattle.link_pieces.specs.Pieces.{link_pieces}
use Rattle.link_pieces.specs.PieceIndex.{IsPieceIndex}
use Rattle.link_keeping.specs.Reach.{child_edge}
use Rattle.link_keeping.proofs.keeping.link_graph.Given as goal

abbrev pub invariant-loop-k : goal.invariant-loop-k
invariant-loop-k l = (link : LinkParts) → link.modules ≡ l.modules → map bare l.pieces ≡ link_pieces link → IsPieceIndex link l.index → l.edges.items ≡ l.fn.edges.items ++ filter_map (child_edge link) (range_with_len 0 l.k)
