use Rattle.std.proofs.Common.{◌≡◌, ◌++◌, map, drop}
use Rattle.res_merge.specs.Levels.{key_at, run_of}
use Rattle.res_merge.specs.Tree.{texts}
use Rattle.res_merge.proofs.leaves.push_texts.Given as goal

abbrev pub invariant-loop-run : goal.invariant-loop-run
invariant-loop-run l = record {
  written : l.out.items ++ texts (key_at l.level) (map run_of (drop l.run-index l.runs)) ≡ l.initial.out.items ++ texts (key_at l.level) (map run_of l.runs);
}
