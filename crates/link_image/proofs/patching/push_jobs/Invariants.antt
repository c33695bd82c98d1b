use Rattle.std.proofs.Common.{◌≡◌, ◌++◌, map, take}
use Rattle.std.specs.List.{All}
use Rattle.link_image.specs.PatchJobs.{IsJob, job_place, places_at}
use Rattle.link_image.proofs.patching.push_jobs.Given as goal

abbrev pub invariant-loop-member : goal.invariant-loop-member
invariant-loop-member l = record {
  places : map job_place l.jobs.items ≡ map job_place l.initial.jobs.items ++ places_at l.plan.fixes.items l.layout l.section (take l.member-index l.members);
  each : All (IsJob l.plan.pieces.items l.plan.fixes.items) l.jobs.items;
}
