use Rattle.icf.specs.Sections.{sections_of}
use Rattle.icf.specs.Fields.{AreFieldsBelow}
use Rattle.icf.proofs.fields.fields_of.Given as goal

abbrev pub invariant-loop-rank : goal.invariant-loop-rank
invariant-loop-rank l = AreFieldsBelow l.owners l.fixes (sections_of l.candidate) l.rank l.fields.items
