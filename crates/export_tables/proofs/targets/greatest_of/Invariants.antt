use Rattle.std.proofs.Common.{◌≡◌, take}
use Rattle.export_tables.specs.ExportTable.{greatest_of}
use Rattle.export_tables.proofs.targets.greatest_of.Given as goal

abbrev pub invariant-loop-ordinal : goal.invariant-loop-ordinal
invariant-loop-ordinal l = l.greatest ≡ greatest_of (take l.ordinal-index l.ordinals)
