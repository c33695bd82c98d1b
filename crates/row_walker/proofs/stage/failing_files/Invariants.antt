use Rattle.std.proofs.Common.{◌≡◌}
use Rattle.row_walker.proofs.stage.failing_files.Given as goal

abbrev pub invariant-loop-file : goal.invariant-loop-file
invariant-loop-file l = (l.files.read_faults ≡ 0) × (l.files.write_faults ≡ 0)
