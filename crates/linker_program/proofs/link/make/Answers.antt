use Rattle.std.proofs.Common.{refl, sym, ap, ◌∙◌}
use Rattle.std.proofs.lemmas.Result.{err_from_is_err_and}
use Rattle.link_words.specs.Outcome.{options_said}
use Rattle.link_plan.specs.Plan.{plan_resources, kept_parts}
use Rattle.link_plan.specs.PlanFaults.{plan_fault}
use Rattle.linker_program.proofs.StepLemmas.{refused_build, linked}
use Rattle.linker_program.proofs.link.make.Goals as goal

pub returns-in_err-built-clause-refused : goal.returns-in_err-built-clause-refused
returns-in_err-built-clause-refused g c =
    let options = options_said c.args.options.now in
    let planned = c.requires in
    let given = err_from_is_err_and c.from_residual.result c.from_residual.ensures.1 in
    rw (given.1, given.2)
    (refused_build options c.args.plan.now.modules.items (plan_resources c.args.plan.now) (kept_parts c.args.plan.now) c.in_err-built.field-0.0 planned.link_is (ap (plan_fault options) (sym planned.link_is.parts_are) ∙ planned.no_fault) c.in_err-built.ensures.refused)

pub returns-clause-linked : goal.returns-clause-linked
returns-clause-linked g c =
    let options = options_said c.args.options.now in
    let planned = c.requires in
    linked options c.args.plan.now.modules.items (plan_resources c.args.plan.now) (kept_parts c.args.plan.now) c.in_ok-built.built
    (record { modules = c.len.result; sections = c.in_ok-built.built.sections; image = c.in_ok-built.built.image; map = c.in_ok-built.built.map; pdb = c.in_ok-built.built.pdb; library = c.in_ok-built.built.library })
    planned.link_is (ap (plan_fault options) (sym planned.link_is.parts_are) ∙ planned.no_fault)
    c.in_ok-built.ensures.built refl refl refl refl refl
    (c.len.ensures ∙ c.args.plan.now.modules.ok.0)
