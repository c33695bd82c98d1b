use Rattle.std.proofs.Common.{◌≡◌, map}
use Rattle.std.specs.List.{range_with_len}
use Rattle.export_tables.specs.NameOrder.{row_entry}
use Rattle.export_tables.proofs.row_order.row_entries.Given as goal

abbrev pub invariant-loop-index : goal.invariant-loop-index
invariant-loop-index l = l.entries.items ≡ map (row_entry l.rows) (range_with_len 0 l.index)
