use Rattle.icf.specs.Rounds.{AreKeys}
use Rattle.icf.proofs.rounds.keys_of.Given as goal

abbrev pub invariant-loop-number : goal.invariant-loop-number
invariant-loop-number l = AreKeys l.lists l.classes l.number l.keys.items
