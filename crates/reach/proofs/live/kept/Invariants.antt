use Rattle.reach.specs.Marking.{work_left}
use Rattle.reach.proofs.LiveLemmas.{IsUnderway}
use Rattle.reach.proofs.live.kept.Given as goal

abbrev pub invariant-loop-piece : goal.invariant-loop-piece
invariant-loop-piece l = IsUnderway l.graph.pieces l.graph.edges.items l.roots l.marking

abbrev pub decreases-loop-piece : goal.decreases-loop-piece
decreases-loop-piece l = work_left l.marking
