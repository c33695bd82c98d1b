use Rattle.std.specs.List.{IsDistinct}
use Rattle.section_group.specs.Sections.{same_home}
use Rattle.section_group.specs.Gathering.{input_of, AreNumbers}
use Rattle.section_group.proofs.gather.number_pieces.Given as goal

abbrev pub invariant-loop-index : goal.invariant-loop-index
invariant-loop-index l =
    AreNumbers (input_of l.parts) l.homes.keys l.index l.numbers.items × IsDistinct same_home l.homes.keys
