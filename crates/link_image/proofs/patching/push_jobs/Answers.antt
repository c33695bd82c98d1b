use Rattle.std.proofs.Common.{◌<◌, Vec, Global, get_or, length, sym, ap, subst, ◌∙◌, arith}
use Rattle.std.specs.List.{All}
use Rattle.std.proofs.lemmas.List.{get_or_default}
use Rattle.std.proofs.lemmas.List.Elements.{All-push}
use Rattle.par_patch.specs.declared.job.Job.{Job}
use Rattle.link_image.specs.PatchJobs.{IsJob}
use Rattle.link_image.proofs.JobPlaceLemmas.{jobs_with, jobs_without}
use Rattle.link_image.proofs.patching.push_jobs.Goals as goal
use Rattle.link_image.proofs.patching.push_jobs.Goals.{then-has_fields+in_ok-push, else-has_fields}

pub loop-member-preserved : goal.loop-member-preserved
loop-member-preserved c =
    let plan = c.args.plan.now in
    let n = c.loop-member.member-index in
    let jobs = c.loop-member.jobs.items in
    let members = c.args.members.now in
    let lt : n < length members = omega (arith, c.loop-member-test.true) in
    let k = get_or members n 0 in
    let read = get_or_default members n 0 k lt in
    elim c.if-has_fields.branch [
      | then-has_fields+in_ok-push w ↦
          let is = ap (λ (v : Vec Job Global). v.items) w.jobs-is ∙ w.in_ok-push.ensures.items in
          record {
            places = jobs_with plan.fixes.items c.args.layout.now c.args.section members n k c.args.jobs.now.items jobs _ w.job_of.result lt read (sym c.has_fields.ensures ∙ w.if-has_fields.true) w.job_of.ensures.place is c.loop-member.invariant.places;
            each = subst (All (IsJob plan.pieces.items plan.fixes.items)) (sym is) (All-push (IsJob plan.pieces.items plan.fixes.items) jobs w.job_of.result c.loop-member.invariant.each w.job_of.ensures.is);
          }
      | else-has_fields w ↦
          let is = ap (λ (v : Vec Job Global). v.items) w.jobs-is in
          record {
            places = jobs_without plan.fixes.items c.args.layout.now c.args.section members n k c.args.jobs.now.items jobs _ lt read (sym c.has_fields.ensures ∙ w.if-has_fields.false) is c.loop-member.invariant.places;
            each = subst (All (IsJob plan.pieces.items plan.fixes.items)) (sym is) c.loop-member.invariant.each;
          }
    ]
