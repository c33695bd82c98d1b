use Rattle.std.proofs.Common.{◌≡◌, map, take}
use Rattle.link_exports.specs.Exports.{unplaced_row}
use Rattle.link_exports.proofs.table_rows.unplaced_rows.Given as goal

abbrev pub invariant-loop-row : goal.invariant-loop-row
invariant-loop-row l = l.unplaced.items ≡ map unplaced_row (take l.row-index l.rows)
