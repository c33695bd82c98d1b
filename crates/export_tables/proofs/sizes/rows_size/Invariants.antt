use Rattle.std.proofs.Common.{◌≡◌, ◌*◌, ◌≤◌, take}
use Rattle.export_tables.specs.ExportTable.{rows_size}
use Rattle.export_tables.proofs.sizes.rows_size.Given as goal

abbrev pub invariant-loop-index : goal.invariant-loop-index
invariant-loop-index l = record {
  sum : l.size ≡ rows_size (take l.index l.rows);
  bound : l.size ≤ 64008 * l.index;
}
