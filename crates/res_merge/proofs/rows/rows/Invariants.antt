use Rattle.std.proofs.Common.{◌≡◌, ◌+◌, ◌++◌, map, drop}
use Rattle.res_merge.specs.Levels.{key_at, run_of}
use Rattle.res_merge.specs.Tree.{rows, texts_size, tables_size}
use Rattle.res_merge.proofs.rows.rows.Given as goal

abbrev pub invariant-loop-run : goal.invariant-loop-run
invariant-loop-run l = record {
  found : l.found.items ++ rows (key_at l.level) l.text l.table (map run_of (drop l.run-index l.runs)) ≡ rows (key_at l.level) l.fn.text l.fn.table (map run_of l.runs);
  texts : l.text + texts_size (key_at l.level) (map run_of (drop l.run-index l.runs)) ≡ l.fn.text + texts_size (key_at l.level) (map run_of l.runs);
  tables : l.table + tables_size (map run_of (drop l.run-index l.runs)) ≡ l.fn.table + tables_size (map run_of l.runs);
}
