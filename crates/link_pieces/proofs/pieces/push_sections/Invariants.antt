use Rattle.std.proofs.Common.{◌≡◌, ◌++◌, map, filter}
use Rattle.std.specs.List.{range_with_len}
use Rattle.section_group.specs.BarePieces.{bare}
use Rattle.section_group.specs.PieceContents.{piece_contents}
use Rattle.link_pieces.specs.Pieces.{is_linked, piece_of, section_contents}
use Rattle.link_pieces.proofs.pieces.push_sections.Given as goal

abbrev pub invariant-loop-index : goal.invariant-loop-index
invariant-loop-index l = record {
  pieces : map bare l.pieces.items ≡ map bare l.initial.pieces.items ++ map (piece_of l.position l.object) (filter (is_linked l.names l.position l.object) (range_with_len 1 l.index));
  contents : map piece_contents l.pieces.items ≡ map piece_contents l.initial.pieces.items ++ map (section_contents l.object) (filter (is_linked l.names l.position l.object) (range_with_len 1 l.index));
}
