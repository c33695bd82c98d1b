use Rattle.section_group.specs.Gathering.{input_of, IsFirstSoFar}
use Rattle.section_group.proofs.content.first_piece.Given as goal

abbrev pub invariant-loop-index : goal.invariant-loop-index
invariant-loop-index l = IsFirstSoFar (input_of l.parts) l.members l.index-index l.first
