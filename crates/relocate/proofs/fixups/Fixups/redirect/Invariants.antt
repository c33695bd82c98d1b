use Rattle.std.proofs.Common.{◌≡◌, map, take, drop, ◌++◌}
use Rattle.relocate.specs.Redirected.{redirected_fix}
use Rattle.relocate.proofs.fixups.Fixups.redirect.Given as goal

abbrev pub invariant-loop-fix : goal.invariant-loop-fix
invariant-loop-fix l =
    l.fix-items ≡ map (redirected_fix l.places l.first l.home l.offsets) (take l.fix-index l.initial.fix-items) ++ drop l.fix-index l.initial.fix-items
