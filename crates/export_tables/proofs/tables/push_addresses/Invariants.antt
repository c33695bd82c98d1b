use Rattle.std.proofs.Common.{◌≡◌, ◌++◌}
use Rattle.export_tables.specs.ExportTable.{text_rva, target_size, addresses}
use Rattle.export_tables.proofs.tables.push_addresses.Given as goal

abbrev pub invariant-loop-index : goal.invariant-loop-index
invariant-loop-index l = record {
  written : l.table.items ≡ l.fn.table.items ++ addresses l.start l.targets l.index;
  place : l.text_rva ≡ text_rva target_size l.start l.targets l.index;
}
