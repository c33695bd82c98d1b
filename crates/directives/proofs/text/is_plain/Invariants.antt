use Rattle.directives.proofs.PlainLemmas.{AreAfterQuote}
use Rattle.directives.proofs.text.is_plain.Given as goal

abbrev pub invariant-loop-b : goal.invariant-loop-b
invariant-loop-b l = record { above : AreAfterQuote l.text l.b-index }
