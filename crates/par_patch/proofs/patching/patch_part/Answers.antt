use Rattle.std.proofs.Common.{length, sym, subst, arith}
use Rattle.par_patch.specs.Slices.{IsJobIn}
use Rattle.par_patch.proofs.SliceLemmas.{none_patched, step}
use Rattle.par_patch.proofs.patching.patch_part.Goals as goal

pub loop-job-init : goal.loop-job-init
loop-job-init c = none_patched _ _ _ _ _ _

pub loop-job-preserved : goal.loop-job-preserved
loop-job-preserved c =
    let job = c.job-item.result in
    let inside : IsJobIn c.args.offset (length c.args.image.now) job = subst (IsJobIn c.args.offset (length c.args.image.now)) (sym c.job-item.is) (c.requires.inside c.loop-job.job-index job c.loop-job-test.true) in
    rw c.least_of-answer.ensures
    (step _ _ _ _ _ _ job _ c.loop-job.image _ _ _ c.loop-job-test.true (sym c.job-item.is) c.requires.apart inside.above c.loop-job.invariant (omega arith)
    c.patch_job.ensures.patched c.patch_job.ensures.behind c.patch_job.ensures.answer)
