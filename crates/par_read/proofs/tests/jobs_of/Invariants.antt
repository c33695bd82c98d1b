use Rattle.std.proofs.Common.{◌≤◌, length, All}
use Rattle.par_read.proofs.tests.jobs_of.Given as goal

abbrev pub invariant-loop-name : goal.invariant-loop-name
invariant-loop-name l = All (λ job. length job.bytes.now ≤ 100) l.jobs.items
