use Rattle.icf.specs.Fields.{AreFieldLists}
use Rattle.icf.proofs.fields.all_fields.Given as goal

abbrev pub invariant-loop-candidate : goal.invariant-loop-candidate
invariant-loop-candidate l = AreFieldLists l.owners l.fixes l.candidates l.candidate-index l.lists.items
