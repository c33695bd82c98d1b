use Rattle.std.proofs.Common.{◌≡◌, ◌++◌}
use Rattle.export_tables.specs.ExportTable.{text_rva, name_size, name_rvas}
use Rattle.export_tables.proofs.tables.push_name_rvas.Given as goal

abbrev pub invariant-loop-index : goal.invariant-loop-index
invariant-loop-index l = record {
  written : l.table.items ≡ l.fn.table.items ++ name_rvas l.start l.names l.index;
  place : l.text_rva ≡ text_rva name_size l.start l.names l.index;
}
