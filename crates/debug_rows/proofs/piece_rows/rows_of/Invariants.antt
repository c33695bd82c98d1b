use Rattle.std.proofs.Common.{◌≡◌, map, take}
use Rattle.debug_rows.specs.MapPieces.{row_of}
use Rattle.debug_rows.proofs.piece_rows.rows_of.Given as goal

abbrev pub invariant-loop-key : goal.invariant-loop-key
invariant-loop-key l = l.rows.items ≡ map (row_of l.pieces) (take l.key-index l.keys)
