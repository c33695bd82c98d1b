use Rattle.std.proofs.Common.{◌≡◌, take}
use Rattle.export_tables.specs.ExportTable.{least}
use Rattle.export_tables.proofs.targets.least.Given as goal

abbrev pub invariant-loop-ordinal : goal.invariant-loop-ordinal
invariant-loop-ordinal l = l.least ≡ least (take l.ordinal-index l.ordinals)
