use Rattle.std.proofs.Common.{◌≡◌, length}
use Rattle.par_patch.proofs.tests.pieces_in_a_row.Given as goal

abbrev pub invariant-loop-k : goal.invariant-loop-k
invariant-loop-k l = length l.pieces.items ≡ l.k
