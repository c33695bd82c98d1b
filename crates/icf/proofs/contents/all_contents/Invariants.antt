use Rattle.icf.specs.Contents.{AreContentLists}
use Rattle.icf.proofs.contents.all_contents.Given as goal

abbrev pub invariant-loop-candidate : goal.invariant-loop-candidate
invariant-loop-candidate l = AreContentLists l.pieces l.candidates l.candidate-index l.keys.items
