use Rattle.std.proofs.Common.{◌≡◌, false, take}
use Rattle.section_group.specs.Placement.{has_initialised}
use Rattle.section_group.specs.Gathering.{input_of}
use Rattle.section_group.proofs.content.any_has.Given as goal

abbrev pub invariant-loop-index : goal.invariant-loop-index
invariant-loop-index l = has_initialised (input_of l.parts) l.flag (take l.index-index l.members) ≡ false
