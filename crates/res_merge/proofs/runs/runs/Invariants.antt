use Rattle.std.proofs.Common.{◌≡◌, ◌≤◌, ◌++◌, map, drop}
use Rattle.res_merge.specs.Entries.{entry_of}
use Rattle.res_merge.specs.Runs.{runs, run_before}
use Rattle.res_merge.specs.Levels.{same_at, run_of}
use Rattle.res_merge.proofs.runs.runs.Given as goal

abbrev pub invariant-loop-k : goal.invariant-loop-k
invariant-loop-k l = record {
  few : l.count ≤ l.k;
  found : map run_of l.found.items ++ run_before (same_at l.level) (entry_of l.head) l.count (runs (same_at l.level) (map entry_of (drop l.k l.list)))
      ≡ runs (same_at l.level) (map entry_of l.list);
}
