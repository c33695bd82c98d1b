use Rattle.icf.specs.Sections.{sections_of}
use Rattle.icf.specs.Owners.{WithSections}
use Rattle.icf.proofs.owners.take_sections.Given as goal

abbrev pub invariant-loop-rank : goal.invariant-loop-rank
invariant-loop-rank l = WithSections l.number (sections_of l.candidate) l.rank l.initial.owners.items l.owners.items
