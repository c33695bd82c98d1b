use Rattle.std.proofs.Common.{◌≡◌, map}
use Rattle.std.specs.List.{All}
use Rattle.link_image.specs.PatchJobs.{IsJob, job_place, places_below}
use Rattle.link_image.proofs.patching.patch_jobs.Given as goal

abbrev pub invariant-loop-section : goal.invariant-loop-section
invariant-loop-section l = record {
  places : map job_place l.jobs.items ≡ places_below l.plan.fixes.items l.placement.sections.items l.placement.layout l.section;
  each : All (IsJob l.plan.pieces.items l.plan.fixes.items) l.jobs.items;
}
