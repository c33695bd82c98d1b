use Rattle.std.proofs.Common.{◌≡◌, ◌++◌, map}
use Rattle.section_group.specs.BarePieces.{bare}
use Rattle.section_group.specs.PieceContents.{piece_contents}
use Rattle.link_pieces.specs.LinkerPieces.{slots_below, pointers_below}
use Rattle.link_pieces.proofs.linker.push_slots.Given as goal

abbrev pub invariant-loop-slot : goal.invariant-loop-slot
invariant-loop-slot l = record {
  pieces : map bare l.pieces.items ≡ map bare l.initial.pieces.items ++ slots_below l.position l.slot;
  contents : map piece_contents l.pieces.items ≡ map piece_contents l.initial.pieces.items ++ pointers_below l.slot;
}
