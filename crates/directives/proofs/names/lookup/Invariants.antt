use Rattle.std.proofs.Common.{◌≡◌, length}
use Rattle.directives.specs.Names.{lookup}
use Rattle.directives.specs.FormView.{rows}
use Rattle.directives.proofs.names.lookup.Given as goal

abbrev pub invariant-loop-table : goal.invariant-loop-table
invariant-loop-table g l = lookup (rows l.table) l.name ≡ lookup (rows l.fn.table) l.name

abbrev pub decreases-loop-table : goal.decreases-loop-table
decreases-loop-table g l = length l.table
