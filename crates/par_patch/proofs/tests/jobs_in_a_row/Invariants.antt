use Rattle.par_patch.proofs.TestLemmas.{AreInARow}
use Rattle.par_patch.proofs.tests.jobs_in_a_row.Given as goal

abbrev pub invariant-loop-k : goal.invariant-loop-k
invariant-loop-k l = AreInARow l.layout l.owner l.k l.jobs.items
