use Rattle.std.proofs.Common.{◌-◌}
use Rattle.link_folding.specs.Steps.{AreGathered}
use Rattle.link_folding.proofs.candidates.add_children.Given as goal

abbrev pub invariant-loop-section : goal.invariant-loop-section
invariant-loop-section l = AreGathered l.names l.kept l.position (l.section - 1) l.found
