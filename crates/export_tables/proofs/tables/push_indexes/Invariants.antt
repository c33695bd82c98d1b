use Rattle.std.proofs.Common.{◌≡◌, ◌++◌, take}
use Rattle.std.specs.List.{flat_map}
use Rattle.export_tables.specs.ExportTable.{index_bytes}
use Rattle.export_tables.proofs.tables.push_indexes.Given as goal

abbrev pub invariant-loop-entry : goal.invariant-loop-entry
invariant-loop-entry l = l.table.items ≡ l.fn.table.items ++ flat_map index_bytes (take l.entry-index l.names)
