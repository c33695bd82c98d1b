use Rattle.std.proofs.Common.{◌+◌, ◌≤◌, length, rules, arith}
use Rattle.par_patch.specs.Slices.{AreJobsIn, IsPatchedSlice, first_start}
use Rattle.par_patch.proofs.SliceLemmas.{cut_within, front_jobs_in, back_jobs_in, halves_joined}
use Rattle.par_patch.proofs.patching.+fn-patch_parts-join_mut+arg2+fn-patch_parts-join_mut+arg3+patch_parts.Goals as goal

pub overflow_add-back_offset : goal.overflow_add-back_offset
overflow_add-back_offset g t c =
    let back = c.split_at.result.1.now in
    let within : first_start back c.args.offset (length c.args.image.now) ≤ length c.args.image.now = rw c.split_at.ensures.back (cut_within _ _ _ _ c.jobs.result _ c.requires.jobs) in
    omega (arith, c.first_start-cut.ensures, c.requires.jobs.end)

pub split_at_mut-front-requires : goal.split_at_mut-front-requires
split_at_mut-front-requires g t c =
    let back = c.split_at.result.1.now in
    let within : first_start back c.args.offset (length c.args.image.now) ≤ length c.args.image.now = rw c.split_at.ensures.back (cut_within _ _ _ _ c.jobs.result _ c.requires.jobs) in
    omega (arith, c.first_start-cut.ensures)

pub join_mut-first-requires-after_bounds : goal.join_mut-first-requires-after_bounds
join_mut-first-requires-after_bounds g t c κs within =
    let front : AreJobsIn c.args.layout.now c.args.owner.now c.args.offset (length c.split_at_mut-front.result.0.now) c.split_at.result.0.now =
    front_jobs_in c.args.layout.now c.args.owner.now c.args.offset (length c.args.image.now) c.jobs.result c.args.jobs.now c.split_at.result.0.now c.split_at.result.1.now c.first_start-cut.result (length c.split_at_mut-front.result.0.now) c.split_at.ensures.front c.split_at.ensures.back c.first_start-cut.ensures c.split_at_mut-front.ensures.front_len c.requires.jobs in
    let back : AreJobsIn c.args.layout.now c.args.owner.now (c.args.offset + c.first_start-cut.result) (length c.split_at_mut-front.result.1.now) c.split_at.result.1.now =
    back_jobs_in c.args.layout.now c.args.owner.now c.args.offset (length c.args.image.now) c.jobs.result c.args.jobs.now c.split_at.result.1.now c.first_start-cut.result (length c.split_at_mut-front.result.1.now) c.split_at.ensures.back c.first_start-cut.ensures c.split_at_mut-front.ensures.back_len c.requires.jobs in
    search (rules, front, back)

pub returns : goal.returns
returns g t c =
    let first : IsPatchedSlice c.args.base c.args.layout.now c.args.owner.now c.args.offset c.split_at.result.0.now c.split_at_mut-front.result.0.now c.front-1.given.0 c.join_mut-first.result.0 = search rules in
    let second : IsPatchedSlice c.args.base c.args.layout.now c.args.owner.now (c.args.offset + c.first_start-cut.result) c.split_at.result.1.now c.split_at_mut-front.result.1.now c.back-1.given.0 c.join_mut-first.result.1 = search rules in
    halves_joined _ _ _ _ c.jobs.result _ _ _ _ _ _ _ _ _ _ _ _ c.split_at.ensures.front c.split_at.ensures.back c.first_start-cut.ensures c.split_at_mut-front.ensures.value c.split_at_mut-front.ensures.front_len c.least_of.ensures c.requires.jobs first second
