use Rattle.std.proofs.Common.{◌≡◌, ◌+◌, map, drop}
use Rattle.res_merge.specs.Levels.{key_at, run_of}
use Rattle.res_merge.specs.Tree.{texts_size}
use Rattle.res_merge.proofs.parts.texts_size.Given as goal

abbrev pub invariant-loop-run : goal.invariant-loop-run
invariant-loop-run l = record { texts : l.size + texts_size (key_at l.level) (map run_of (drop l.run-index l.runs)) ≡ texts_size (key_at l.level) (map run_of l.runs) }
