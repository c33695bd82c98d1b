use Rattle.std.proofs.Common.{take}
use Rattle.pdb_file.proofs.UsedLemmas.{AreUsed}
use Rattle.pdb_file.proofs.sizes.used_buckets.Given as goal

abbrev pub invariant-loop-row : goal.invariant-loop-row
invariant-loop-row l = AreUsed (take l.row-index l.rows) l.used.items l.count
