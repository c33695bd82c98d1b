use Rattle.std.proofs.Common.{◌≡◌, false, take}
use Rattle.std.specs.List.{list_any}
use Rattle.section_group.specs.Placement.{needs_place}
use Rattle.section_group.specs.Gathering.{input_of}
use Rattle.section_group.proofs.content.is_needed.Given as goal

abbrev pub invariant-loop-index : goal.invariant-loop-index
invariant-loop-index l = list_any (needs_place (input_of l.parts)) (take l.index-index l.members) ≡ false
