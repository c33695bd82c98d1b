use Rattle.std.proofs.Common.{◌≡◌, ℕ, List, length, Some, ap, sym, subst, ◌∙◌, rules}
use Rattle.std.specs.Int.{w128}
use Rattle.std.specs.List.{All, AllPairs}
use Rattle.std.proofs.lemmas.Int.{to_z-of_z}
use Rattle.link_base.specs.declared.fault.Fault.TheVariants as faults
use Rattle.link_plan.specs.Plan.{kept_parts}
use Rattle.par_patch.specs.declared.job.Job.{Job}
use Rattle.par_patch.specs.PatchedJobs.{EndsBefore, EndsWithin, FieldsFit, IsReady as CanPatch, patched_jobs}
use Rattle.par_patch.specs.LeastRange.{IsLeastRange}
use Rattle.par_patch.proofs.CallerLemmas.{length-patched_jobs}
use Rattle.link_image.specs.LinkedBytes.{placed_contents}
use Rattle.link_image.specs.Steps.{reloc_tables, file_of}
use Rattle.link_image.proofs.SortLemmas.{written_back}
use Rattle.link_image.proofs.JobLemmas.{can_have_jobs, jobs_apart, jobs_within, jobs_ready, all_patched, all_fit, least_told}
use Rattle.link_image.proofs.patching.patch_pieces.Goals as goal

pub patch_jobs-requires : goal.patch_jobs-requires
patch_jobs-requires g c =
    can_have_jobs (kept_parts c.args.plan.now) c.args.plan.now.pieces.items c.args.plan.now.fixes.items c.args.placement.now.sections.items c.args.placement.now.layout c.args.owner.now (reloc_tables c.args.placement.now.table) c.requires.ready

pub patch_all-requires-clause-apart : goal.patch_all-requires-clause-apart
patch_all-requires-clause-apart g c κs within =
    let plan = c.args.plan.now in
    let placement = c.args.placement.now in
    subst (AllPairs EndsBefore) (sym c.deref.ensures.value)
    (jobs_apart (kept_parts plan) plan.pieces.items plan.fixes.items placement.sections.items placement.layout c.args.owner.now (reloc_tables placement.table) c.requires.ready c.args.headers.now c.requires.directories c.in_ok-jobs.jobs.items c.in_ok-jobs.ensures)

pub patch_all-requires-clause-within : goal.patch_all-requires-clause-within
patch_all-requires-clause-within g c κs within =
    let plan = c.args.plan.now in
    let placement = c.args.placement.now in
    subst (λ (jobs : List Job). All (EndsWithin (length c.deref_mut.result.now)) jobs) (sym c.deref.ensures.value)
    (subst (λ (image : List ℕ). All (EndsWithin (length image)) c.in_ok-jobs.jobs.items) (sym (c.deref_mut.ensures.value ∙ c.requires.file))
    (jobs_within (kept_parts plan) plan.pieces.items plan.fixes.items placement.sections.items placement.layout c.args.owner.now (reloc_tables placement.table) c.requires.ready c.args.headers.now c.requires.directories c.in_ok-jobs.jobs.items c.in_ok-jobs.ensures))

pub patch_all-requires-clause-ready : goal.patch_all-requires-clause-ready
patch_all-requires-clause-ready g c κs within =
    let plan = c.args.plan.now in
    let placement = c.args.placement.now in
    subst (All (CanPatch placement.layout c.args.owner.now)) (sym c.deref.ensures.value)
    (jobs_ready (kept_parts plan) plan.pieces.items plan.fixes.items placement.sections.items placement.layout c.args.owner.now (reloc_tables placement.table) c.requires.ready c.args.headers.now c.requires.directories c.in_ok-jobs.jobs.items c.in_ok-jobs.ensures)

pub returns-in-Ok-clause-patched : goal.returns-in-Ok-clause-patched
returns-in-Ok-clause-patched g c =
    let plan = c.args.plan.now in
    let placement = c.args.placement.now in
    let base = c.args.headers.now.base in
    let jobs = c.in_ok-jobs.jobs.items in
    let before = file_of c.args.headers.now placement.sections.items placement.layout (placed_contents (kept_parts plan) placement.layout) (reloc_tables placement.table) in
    let image = c.deref_mut.ensures.value ∙ c.requires.file in
    let patched = c.in-Ok.ensures.patched
    ∙ ap (λ (js : List Job). patched_jobs base placement.layout c.args.owner.now js c.deref_mut.result.now) c.deref.ensures.value
    ∙ ap (patched_jobs base placement.layout c.args.owner.now jobs) image in
    let within = jobs_within (kept_parts plan) plan.pieces.items plan.fixes.items placement.sections.items placement.layout c.args.owner.now (reloc_tables placement.table) c.requires.ready c.args.headers.now c.requires.directories jobs c.in_ok-jobs.ensures in
    let long : length c.patch_all.new.image ≡ length c.args.image.now.items =
    ap length patched ∙ length-patched_jobs base placement.layout c.args.owner.now jobs before within ∙ sym (ap length c.requires.file) in
    written_back c.args.image.now.len c.patch_all.new.image c.args.image.now.items c.args.image.now.ok.0 long
    ∙ patched
    ∙ all_patched (kept_parts plan) plan.pieces.items plan.fixes.items placement.sections.items placement.layout c.args.owner.now (reloc_tables placement.table) c.requires.ready c.args.headers.now c.requires.directories jobs c.in_ok-jobs.ensures

pub returns-in-Ok-clause-in_range : goal.returns-in-Ok-clause-in_range
returns-in-Ok-clause-in_range g c =
    let plan = c.args.plan.now in
    let placement = c.args.placement.now in
    let base = c.args.headers.now.base in
    all_fit (kept_parts plan) plan.pieces.items plan.fixes.items placement.sections.items placement.layout c.args.owner.now (reloc_tables placement.table) c.requires.ready c.args.headers.now c.requires.directories c.in_ok-jobs.jobs.items c.in_ok-jobs.ensures
    (subst (λ (image : List ℕ). All (FieldsFit base placement.layout c.args.owner.now image) c.in_ok-jobs.jobs.items) (c.deref_mut.ensures.value ∙ c.requires.file)
    (subst (λ (jobs : List Job). All (FieldsFit base placement.layout c.args.owner.now c.deref_mut.result.now) jobs) c.deref.ensures.value c.in-Ok.ensures.in_range))

pub returns-clause-refused : goal.returns-clause-refused
returns-clause-refused g c =
    let plan = c.args.plan.now in
    let placement = c.args.placement.now in
    let base = c.args.headers.now.base in
    let range = c.in-Err.range in
    least_told (kept_parts plan) plan.pieces.items plan.fixes.items placement.sections.items placement.layout c.args.owner.now (reloc_tables placement.table) c.requires.ready c.args.headers.now c.requires.directories c.in_ok-jobs.jobs.items c.in_ok-jobs.ensures range
    (subst (λ (image : List ℕ). IsLeastRange base placement.layout c.args.owner.now c.in_ok-jobs.jobs.items image range) (c.deref_mut.ensures.value ∙ c.requires.file)
    (subst (λ (jobs : List Job). IsLeastRange base placement.layout c.args.owner.now jobs c.deref_mut.result.now range) c.deref.ensures.value c.in-Err.ensures.refused))
    ∙ ap (λ (value : _). Some (faults.RelocRange (Some range.«module») range.section range.index value)) (sym (to_z-of_z w128 range.value (search rules)))
