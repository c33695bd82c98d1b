use Rattle.std.proofs.Common.{take}
use Rattle.par_read.specs.Opened.{AreOpenedAs}
use Rattle.par_read.proofs.part.open_jobs.Given as goal

abbrev pub invariant-loop-job : goal.invariant-loop-job
invariant-loop-job l = AreOpenedAs (take l.job-index l.jobs) l.answers.items
