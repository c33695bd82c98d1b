use Rattle.symbol_names.proofs.RestLemmas.{RestsSoFar}
use Rattle.symbol_names.proofs.rests.note_rests.Given as goal

abbrev pub invariant-loop-number : goal.invariant-loop-number
invariant-loop-number l = RestsSoFar l.initial.names.keys l.names.keys l.number
