use Rattle.par_patch.proofs.JobLemmas.{length-patched_jobs}
use Rattle.par_patch.proofs.laws.patching_jobs_keeps_the_length.Goals as goal

pub returns : goal.returns
returns c = length-patched_jobs
