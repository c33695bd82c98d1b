use Rattle.std.proofs.Common.{◌≡◌, map, take}
use Rattle.std.specs.List.{All, range_with_len, flat_map}
use Rattle.section_group.specs.BarePieces.{bare}
use Rattle.section_group.specs.PieceContents.{piece_contents}
use Rattle.module_view.specs.Module.{module_at}
use Rattle.module_view.specs.Opening.{IsOpened}
use Rattle.link_pieces.specs.Commons.{HasFewSections}
use Rattle.link_pieces.specs.Pieces.{pieces_in, contents_in}
use Rattle.link_pieces.proofs.pieces.pieces_of.Given as goal

abbrev pub invariant-loop-position : goal.invariant-loop-position
invariant-loop-position l = record {
  pieces : map bare l.pieces.items ≡ flat_map (λ k. pieces_in l.names k (module_at l.modules k).bytes) (range_with_len 0 l.position);
  contents : map piece_contents l.pieces.items ≡ flat_map (λ k. contents_in l.names k (module_at l.modules k).bytes) (range_with_len 0 l.position);
  opened : All IsOpened (take l.position l.modules);
  few_sections : All HasFewSections (take l.position l.modules);
}
