use Rattle.std.proofs.Common.{ℕ, ◌<◌, get_or}
use Rattle.relocate.specs.declared.fix.Fix.{Fix}
use Rattle.relocate.specs.Value.{HasEntry, target_of}
use Rattle.par_patch.proofs.tests.one_field.Given as goal

abbrev pub invariant-loop-fix : goal.invariant-loop-fix
invariant-loop-fix l = (k : ℕ) (d : Fix) → k < l.fix-index → HasEntry l.layout l.owner (target_of (get_or l.fix-items k d))
