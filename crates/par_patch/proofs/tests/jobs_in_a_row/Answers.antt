use Rattle.std.proofs.Common.{arith}
use Rattle.par_patch.proofs.TestLemmas.{none_in_a_row, one_more, ten_within}
use Rattle.par_patch.proofs.tests.jobs_in_a_row.Goals as goal

pub loop-k-init : goal.loop-k-init
loop-k-init c = rw c.new-jobs.ensures.items (none_in_a_row _ _)

pub loop-k-preserved : goal.loop-k-preserved
loop-k-preserved c =
    rw c.in_ok-push.ensures.items
    (one_more _ _ _ _ _ (omega arith) (omega arith) (record { patchable = c.fixups_of.ensures.patchable; entries = c.fixups_of.ensures.entries; piece = omega arith }) c.loop-k.invariant)

pub returns-clause-within : goal.returns-clause-within
returns-clause-within c = ten_within _ _ _ _ (omega arith) c.loop-k.invariant
