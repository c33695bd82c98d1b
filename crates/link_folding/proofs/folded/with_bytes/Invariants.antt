use Rattle.std.proofs.Common.{◌≡◌, Some, map, take}
use Rattle.section_group.specs.BarePieces.{bare}
use Rattle.section_group.specs.PieceContents.{piece_contents}
use Rattle.link_folding.specs.Places.{body_in}
use Rattle.link_folding.proofs.folded.with_bytes.Given as goal

abbrev pub invariant-loop-piece : goal.invariant-loop-piece
invariant-loop-piece l = record {
  bare : map bare l.whole.items ≡ map bare (take l.piece-index l.pieces);
  bodies : map body_in l.whole.items ≡ map Some (map piece_contents (take l.piece-index l.pieces));
}
