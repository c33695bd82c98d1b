use Rattle.std.proofs.Common.{◌≡◌, take}
use Rattle.export_tables.specs.Ordinals.{free_names}
use Rattle.export_tables.proofs.ordinals.free_names.Given as goal

abbrev pub invariant-loop-row : goal.invariant-loop-row
invariant-loop-row l = l.names.items ≡ free_names (take l.row-index l.rows)
