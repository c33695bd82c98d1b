use Rattle.std.proofs.Common.{◌≡◌, ◌*◌, take}
use Rattle.pdata_table.specs.Rows.{table_of}
use Rattle.pdata_table.proofs.sorting.write_rows.Given as goal

-- the bytes of the rows so far stand in the table
abbrev pub invariant-loop-index : goal.invariant-loop-index
invariant-loop-index l = take (12 * l.index) l.table ≡ table_of (take l.index l.rows)
