use Rattle.std.proofs.Common.{◌≡◌, ◌++◌, map, filter, take}
use Rattle.section_group.specs.BarePieces.{bare}
use Rattle.section_group.specs.PieceContents.{piece_contents}
use Rattle.link_pieces.specs.Commons.{is_meant_common, common_piece}
use Rattle.link_pieces.specs.Pieces.{no_contents}
use Rattle.link_pieces.proofs.pieces.push_commons.Given as goal

abbrev pub invariant-loop-common : goal.invariant-loop-common
invariant-loop-common l = record {
  pieces : map bare l.pieces.items ≡ map bare l.initial.pieces.items ++ map (common_piece l.names.modules l.position) (filter (is_meant_common l.names l.position) (take l.common-index l.common-items));
  contents : map piece_contents l.pieces.items ≡ map piece_contents l.initial.pieces.items ++ map no_contents (filter (is_meant_common l.names l.position) (take l.common-index l.common-items));
}
