use Rattle.std.proofs.Common.{◌≡◌, ◌++◌, drop}
use Rattle.std.specs.List.{flat_map}
use Rattle.res_merge.specs.Tree.{row_bytes}
use Rattle.res_merge.proofs.tables.push_rows.Given as goal

abbrev pub invariant-loop-row : goal.invariant-loop-row
invariant-loop-row l = record { written : l.out.items ++ flat_map row_bytes (drop l.row-index l.rows) ≡ l.initial.out.items ++ flat_map row_bytes l.rows }
