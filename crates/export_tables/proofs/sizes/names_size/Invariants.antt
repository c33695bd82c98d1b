use Rattle.std.proofs.Common.{◌≡◌, take}
use Rattle.std.specs.List.{sum_by}
use Rattle.export_tables.specs.ExportTable.{name_size}
use Rattle.export_tables.proofs.sizes.names_size.Given as goal

abbrev pub invariant-loop-index : goal.invariant-loop-index
invariant-loop-index l = l.size ≡ sum_by name_size (take l.index l.names)
