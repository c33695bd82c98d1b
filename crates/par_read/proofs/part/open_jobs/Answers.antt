use Rattle.std.proofs.Common.{[], ◌∷◌, ◌++◌, ◌≡◌, sym, subst, arith, rules}
use Rattle.par_read.specs.Opened.{AreOpenedAs}
use Rattle.par_read.proofs.OpenedLemmas.{opened_more}
use Rattle.par_read.proofs.part.open_jobs.Goals as goal

pub loop-job-preserved : goal.loop-job-preserved
loop-job-preserved c =
    let more : c.push.new.self.items ≡ c.loop-job.answers.items ++ c.open_job.result ∷ [] = search rules in
    subst (AreOpenedAs _) (sym more) (opened_more c.args.jobs.now c.loop-job.answers.items c.loop-job.job-index c.job-item.result c.open_job.result (omega arith) c.job-item.is c.loop-job.invariant c.open_job.ensures)
