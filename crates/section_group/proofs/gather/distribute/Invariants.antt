use Rattle.section_group.specs.Gathering.{AreMembers}
use Rattle.section_group.proofs.gather.distribute.Given as goal

abbrev pub invariant-loop-index : goal.invariant-loop-index
invariant-loop-index l = AreMembers l.numbers l.index l.sections l.members.items
