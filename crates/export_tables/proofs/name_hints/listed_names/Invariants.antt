use Rattle.std.proofs.Common.{◌≡◌, take}
use Rattle.export_tables.specs.Hints.{listed_names}
use Rattle.export_tables.proofs.name_hints.listed_names.Given as goal

abbrev pub invariant-loop-row : goal.invariant-loop-row
invariant-loop-row l = l.names.items ≡ listed_names (take l.row-index l.rows)
