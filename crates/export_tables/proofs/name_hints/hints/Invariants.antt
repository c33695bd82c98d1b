use Rattle.std.proofs.Common.{◌≡◌, map, take}
use Rattle.export_tables.specs.Hints.{hint_of}
use Rattle.export_tables.proofs.name_hints.hints.Given as goal

abbrev pub invariant-loop-row : goal.invariant-loop-row
invariant-loop-row l = l.hints.items ≡ map (hint_of l.rows) (take l.row-index l.rows)
