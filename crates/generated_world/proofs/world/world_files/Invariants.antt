use Rattle.std.proofs.Common.{◌≡◌}
use Rattle.generated_world.proofs.WorldLemmas.{first_files}
use Rattle.generated_world.proofs.world.world_files.Given as goal

abbrev pub invariant-loop-index : goal.invariant-loop-index
invariant-loop-index l = l.files ≡ first_files l.count l.index
