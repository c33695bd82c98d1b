use Rattle.std.proofs.Common.{◌≡◌, take}
use Rattle.export_tables.specs.ExportTable.{targets_in, least, address_count}
use Rattle.export_tables.proofs.targets.targets_of.Given as goal

-- what the rows before an index export
abbrev pub invariant-loop-index : goal.invariant-loop-index
invariant-loop-index l = l.targets.items ≡ targets_in l.rows (least l.ordinals) (address_count l.ordinals) (take l.index l.ordinals)
