use Rattle.link_folding.specs.Steps.{AreGathered}
use Rattle.link_folding.proofs.candidates.fold_candidates.Given as goal

abbrev pub invariant-loop-position : goal.invariant-loop-position
invariant-loop-position l = AreGathered l.names l.kept l.position 0 l.found
