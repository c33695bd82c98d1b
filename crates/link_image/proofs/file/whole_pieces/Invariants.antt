use Rattle.std.proofs.Common.{◌≡◌, map, take}
use Rattle.section_group.specs.BarePieces.{bare}
use Rattle.section_group.specs.PieceContents.{piece_contents}
use Rattle.link_image.specs.Steps.{all_bytes, given_contents}
use Rattle.link_image.proofs.file.whole_pieces.Given as goal

abbrev pub invariant-loop-piece : goal.invariant-loop-piece
invariant-loop-piece l = record {
  same : map bare l.whole.items ≡ map bare (take l.piece-index l.pieces);
  contents : map piece_contents l.whole.items ≡ map (given_contents l.position (all_bytes l.imports l.others)) (take l.piece-index l.pieces);
}
