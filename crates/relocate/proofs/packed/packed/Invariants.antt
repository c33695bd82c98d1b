use Rattle.std.proofs.Common.{◌≡◌, take}
use Rattle.relocate.proofs.packed.packed.Given as goal

abbrev pub invariant-loop-fix : goal.invariant-loop-fix
invariant-loop-fix l = l.packed.items ≡ take l.fix-index l.fixes
