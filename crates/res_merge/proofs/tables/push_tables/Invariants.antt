use Rattle.std.proofs.Common.{◌≡◌, ◌≤◌, ◌++◌, map, drop, length}
use Rattle.std.specs.List.{sum_by}
use Rattle.res_merge.specs.Levels.{run_of}
use Rattle.res_merge.specs.Tree.{tables}
use Rattle.res_merge.proofs.tables.push_tables.Given as goal

abbrev pub invariant-loop-run : goal.invariant-loop-run
invariant-loop-run l = record {
  written : l.out.items ++ tables l.time (map run_of (drop l.run-index l.runs)) l.rest ≡ l.initial.out.items ++ tables l.time (map run_of l.runs) l.rows;
  few : length l.rest ≤ 65535;
  counts : sum_by (λ run. run.count) (map run_of (drop l.run-index l.runs)) ≡ length l.rest;
}
