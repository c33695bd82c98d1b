use Rattle.std.proofs.Common.{◌≡◌, map, take}
use Rattle.section_group.specs.Gathering.{input_of}
use Rattle.section_group.specs.Keys.{piece_key}
use Rattle.section_group.proofs.order.keys_of.Given as goal

abbrev pub invariant-loop-index : goal.invariant-loop-index
invariant-loop-index l = l.keys.items ≡ map (piece_key (input_of l.parts)) (take l.index-index l.members)
