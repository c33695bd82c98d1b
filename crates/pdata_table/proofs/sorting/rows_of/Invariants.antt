use Rattle.std.proofs.Common.{◌≡◌, map}
use Rattle.std.specs.List.{range_with_len}
use Rattle.pdata_table.specs.Rows.{row_at}
use Rattle.pdata_table.proofs.sorting.rows_of.Given as goal

abbrev pub invariant-loop-index : goal.invariant-loop-index
invariant-loop-index l = l.rows.items ≡ map (row_at l.table) (range_with_len 0 l.index)
