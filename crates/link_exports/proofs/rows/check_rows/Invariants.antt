use Rattle.std.proofs.Common.{take}
use Rattle.std.specs.List.{All}
use Rattle.link_exports.specs.Exports.{CanBeTold}
use Rattle.link_exports.proofs.rows.check_rows.Given as goal

abbrev pub invariant-loop-row : goal.invariant-loop-row
invariant-loop-row l = All CanBeTold (take l.row-index l.rows)
