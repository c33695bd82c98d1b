use Rattle.par_patch.proofs.tests.patch_zeros.Goals as goal

pub patch_all-answer-requires-clause-apart : goal.patch_all-answer-requires-clause-apart
patch_all-answer-requires-clause-apart g c κs within = rw c.deref.ensures.value c.in_ok-jobs.ensures.apart
