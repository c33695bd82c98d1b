use Rattle.section_group.specs.Gathering.{input_of}
use Rattle.section_group.specs.Keys.{AscendUpTo}
use Rattle.section_group.proofs.order.ascend.Given as goal

abbrev pub invariant-loop-at : goal.invariant-loop-at
invariant-loop-at l = AscendUpTo (input_of l.parts) l.members l.at
