use Rattle.std.proofs.Common.{◌≡◌, ◌++◌, take}
use Rattle.std.specs.List.{flat_map}
use Rattle.export_tables.specs.ExportTable.{target_bytes}
use Rattle.export_tables.proofs.table_texts.push_forwarders.Given as goal

abbrev pub invariant-loop-target : goal.invariant-loop-target
invariant-loop-target l = l.table.items ≡ l.fn.table.items ++ flat_map target_bytes (take l.target-index l.targets)
