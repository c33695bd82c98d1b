use Rattle.std.proofs.Common.{◌≡◌, false, take}
use Rattle.std.specs.List.{list_any}
use Rattle.section_group.specs.SectionOrder.{piece_at}
use Rattle.section_group.specs.Gathering.{input_of}
use Rattle.section_group.proofs.content.any_initialised.Given as goal

abbrev pub invariant-loop-index : goal.invariant-loop-index
invariant-loop-index l = list_any (λ k. (piece_at (input_of l.parts) k).init) (take l.index-index l.members) ≡ false
