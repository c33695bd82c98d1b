use Rattle.std.proofs.Common.{ℕ, sym, ap, subst, ◌∙◌}
use Rattle.std.proofs.lemmas.Result.{err_from_is_err_and}
use Rattle.link_base.specs.Refusals.{RefusesFor}
use Rattle.section_group.specs.Uniqueness.{rows_of}
use Rattle.link_words.specs.Outcome.{LinkOptions, options_said}
use Rattle.link_plan.specs.declared.planning.LinkPlan.{LinkPlan}
use Rattle.link_plan.specs.Plan.{kept_parts}
use Rattle.link_image.specs.declared.placement.Placement.{Placement}
use Rattle.link_image.specs.LinkedBytes.{fields_range_fault}
use Rattle.link_image.specs.Steps.{reloc_tables}
use Rattle.link_image.proofs.SectionLemmas.{ready, range_refusal}
use Rattle.link_image.proofs.make.finish.Goals as goal

pub patch_pieces-requires-clause-ready : goal.patch_pieces-requires-clause-ready
patch_pieces-requires-clause-ready g c κs within =
    let options : LinkOptions = options_said c.args.options.now in
    let plan : LinkPlan = c.args.plan.now in
    let placement : Placement = c.args.placement.now in
    (ready options plan placement c.args.headers.now c.args.image.now.items c.args.owner.now c.requires.plan c.requires.placed c.requires.written c.requires.owner)

pub patch_pieces-requires-clause-file : goal.patch_pieces-requires-clause-file
patch_pieces-requires-clause-file g c κs within = c.requires.written.file

pub sort_pdata-requires-clause-ready : goal.sort_pdata-requires-clause-ready
sort_pdata-requires-clause-ready g c =
    let options : LinkOptions = options_said c.args.options.now in
    let plan : LinkPlan = c.args.plan.now in
    let placement : Placement = c.args.placement.now in
    (ready options plan placement c.args.headers.now c.args.image.now.items c.args.owner.now c.requires.plan c.requires.placed c.requires.written c.requires.owner)

pub returns-in_err-patch_pieces-clause-refused : goal.returns-in_err-patch_pieces-clause-refused
returns-in_err-patch_pieces-clause-refused g c =
    let options : LinkOptions = options_said c.args.options.now in
    let plan : LinkPlan = c.args.plan.now in
    let placement : Placement = c.args.placement.now in
    let given = err_from_is_err_and c.from_residual.result c.from_residual.ensures.1 in
    let refused = subst (λ (base : ℕ). RefusesFor (fields_range_fault (kept_parts plan) (rows_of placement.sections.items) placement.layout base) c.in_err-patch_pieces.field-0.0) c.requires.base c.in_err-patch_pieces.ensures.refused in
    rw (given.1, given.2) (range_refusal options (kept_parts plan) (rows_of placement.sections.items) placement.layout (reloc_tables placement.table) c.in_err-patch_pieces.field-0.0 c.requires.placed.means c.requires.permitted c.requires.outside refused)

pub returns-clause-in_range : goal.returns-clause-in_range
returns-clause-in_range g c =
    let plan : LinkPlan = c.args.plan.now in
    let placement : Placement = c.args.placement.now in
    ap (fields_range_fault (kept_parts plan) (rows_of placement.sections.items) placement.layout) (sym c.requires.base) ∙ c.in_ok-patch_pieces.ensures.in_range

pub identify-requires-clause-ready : goal.identify-requires-clause-ready
identify-requires-clause-ready g c =
    let options : LinkOptions = options_said c.args.options.now in
    let plan : LinkPlan = c.args.plan.now in
    let placement : Placement = c.args.placement.now in
    (ready options plan placement c.args.headers.now c.args.image.now.items c.args.owner.now c.requires.plan c.requires.placed c.requires.written c.requires.owner)
