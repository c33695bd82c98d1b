use Rattle.std.proofs.Common.{◌≡◌, ◌++◌, length, map, filter}
use Rattle.std.specs.List.{range_with_len}
use Rattle.section_group.specs.BarePieces.{bare}
use Rattle.section_group.specs.PieceContents.{piece_contents}
use Rattle.synthetic_sections.specs.LinkerPieces.{thunk_piece}
use Rattle.link_imports.specs.ImportPieces.{has_thunk, jump}
use Rattle.link_imports.proofs.pieces.push_thunks.Given as goal

abbrev pub invariant-loop-import : goal.invariant-loop-import
invariant-loop-import l = record {
  pieces : map bare l.pieces.items ≡ map bare l.initial.pieces.items ++ map (thunk_piece (length l.modules)) (filter (has_thunk l.modules) (range_with_len 0 l.import));
  contents : map piece_contents l.pieces.items ≡ map piece_contents l.initial.pieces.items ++ map jump (filter (has_thunk l.modules) (range_with_len 0 l.import));
}
