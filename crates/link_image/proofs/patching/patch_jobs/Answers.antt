use Rattle.std.proofs.Common.{◌<◌, map, length, sym, ap, subst, ◌∙◌, arith}
use Rattle.std.specs.List.{All}
use Rattle.std.proofs.lemmas.List.Elements.{All-nil}
use Rattle.link_image.specs.PatchJobs.{CanHaveJob, IsJob, job_place, places_below}
use Rattle.link_image.proofs.JobPlaceLemmas.{members_are, section_more}
use Rattle.link_image.proofs.patching.patch_jobs.Goals as goal

pub loop-section-init : goal.loop-section-init
unfolding places_below
loop-section-init c = record {
  places = ap (map job_place) c.new-jobs.ensures.items;
  each = subst (All (IsJob c.args.plan.now.pieces.items c.args.plan.now.fixes.items)) (sym c.new-jobs.ensures.items) (All-nil (IsJob c.args.plan.now.pieces.items c.args.plan.now.fixes.items));
}

pub push_jobs-requires-clause-place : goal.push_jobs-requires-clause-place
push_jobs-requires-clause-place c =
    let sections = c.args.placement.now.sections in
    let i = c.loop-section.section in
    let there : i < length sections.items = omega (arith, c.loop-section-test.true, c.len-section-end.ensures, sections.ok.0) in
    subst (All (CanHaveJob c.args.plan.now.pieces.items c.args.plan.now.fixes.items c.args.placement.now.layout i))
    (sym (c.deref.ensures.value ∙ members_are sections.items i c.index.result.now there c.index.ensures)) (c.requires i there)

pub loop-section-preserved : goal.loop-section-preserved
loop-section-preserved c =
    let plan = c.args.plan.now in
    let placement = c.args.placement.now in
    let sections = placement.sections in
    let i = c.loop-section.section in
    let there : i < length sections.items = omega (arith, c.loop-section-test.true, c.len-section-end.ensures, sections.ok.0) in
    let same = c.deref.ensures.value ∙ members_are sections.items i c.index.result.now there c.index.ensures in
    let pushed = c.in_ok-push_jobs.ensures in record {
      places = section_more plan.fixes.items sections.items placement.layout i c.deref.result.now (map job_place c.loop-section.jobs.items) (map job_place c.push_jobs.new.jobs.items) same c.loop-section.invariant.places pushed.places;
      each = pushed.each;
    }
