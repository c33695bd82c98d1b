use Rattle.std.proofs.Common.{length}
use Rattle.icf.specs.Rounds.{AreSplit, room}
use Rattle.icf.proofs.rounds.split_all.Given as goal

abbrev pub invariant-loop-classes : goal.invariant-loop-classes
invariant-loop-classes l = AreSplit l.lists l.fn.first.items l.classes.items

abbrev pub decreases-loop-classes : goal.decreases-loop-classes
decreases-loop-classes l = room (length l.lists) l.classes.items
