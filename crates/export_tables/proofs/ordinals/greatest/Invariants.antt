use Rattle.std.proofs.Common.{◌≡◌, take}
use Rattle.export_tables.specs.Ordinals.{greatest}
use Rattle.export_tables.proofs.ordinals.greatest.Given as goal

abbrev pub invariant-loop-row : goal.invariant-loop-row
invariant-loop-row l = l.most ≡ greatest (take l.row-index l.rows)
