use Rattle.par_patch.proofs.SliceLemmas.{PatchedTo}
use Rattle.par_patch.proofs.patching.patch_part.Given as goal

abbrev pub invariant-loop-job : goal.invariant-loop-job
invariant-loop-job l = PatchedTo l.base l.layout l.owner l.offset l.jobs l.job-index l.initial.image l.image l.answer
