use Rattle.std.proofs.Common.{length}
use Rattle.symbol_names.proofs.RestLemmas.{NotesRests}
use Rattle.symbol_names.proofs.rests.note_rests_of.Given as goal

abbrev pub invariant-loop-rest : goal.invariant-loop-rest
invariant-loop-rest l = NotesRests l.initial.names.keys l.names.keys l.number l.rest

abbrev pub decreases-loop-rest : goal.decreases-loop-rest
decreases-loop-rest l = length l.rest
