use Rattle.section_group.specs.Gathering.{input_of}
use Rattle.section_group.specs.Sections.{AreBuilt}
use Rattle.section_group.proofs.sections.build_sections.Given as goal

abbrev pub invariant-loop-key : goal.invariant-loop-key
invariant-loop-key l = AreBuilt (input_of l.parts) l.homes.keys l.members l.key-items l.key-index l.sections.items
