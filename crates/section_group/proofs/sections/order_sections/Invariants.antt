use Rattle.section_group.specs.Gathering.{input_of}
use Rattle.section_group.specs.Sections.{AreKeys}
use Rattle.section_group.proofs.sections.order_sections.Given as goal

abbrev pub invariant-loop-section : goal.invariant-loop-section
invariant-loop-section l = AreKeys (input_of l.parts) l.homes.keys l.members l.section l.keys.items
