use Rattle.std.proofs.Common.{◌≡◌, ◌+◌, map, drop}
use Rattle.res_merge.specs.Levels.{run_of}
use Rattle.res_merge.specs.Tree.{tables_size}
use Rattle.res_merge.proofs.parts.tables_size.Given as goal

abbrev pub invariant-loop-run : goal.invariant-loop-run
invariant-loop-run l = record { tables : l.size + tables_size (map run_of (drop l.run-index l.runs)) ≡ tables_size (map run_of l.runs) }
