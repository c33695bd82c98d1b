use Rattle.std.proofs.Common.{◌≡◌, map, take}
use Rattle.res_merge.specs.Entries.{entry_of}
use Rattle.res_merge.specs.Runs.{heads}
use Rattle.res_merge.specs.Levels.{run_of}
use Rattle.res_merge.proofs.runs.heads.Given as goal

abbrev pub invariant-loop-run : goal.invariant-loop-run
invariant-loop-run l = record { heads : map entry_of l.list.items ≡ heads (map run_of (take l.run-index l.found)) }
