use Rattle.std.proofs.Common.{sym, ap, ◌∙◌, subst}
use Rattle.std.specs.Prelude.{IfOk, List, ℕ}
use Rattle.link_base.specs.declared.stop.Refusal.TheVariants as refusal
use Rattle.link_words.specs.Outcome.{options_said}
use Rattle.link_plan.specs.Plan.{plan_resources, kept_parts}
use Rattle.link_plan.specs.PlanFaults.{plan_fault}
use Rattle.link_image.specs.BuildFaults.{RefusesBuild}
use Rattle.linker_program.specs.Outcome.{ModulesOutcome}
use Rattle.linker_program.specs.Generated.{image_told}
use Rattle.linker_program.specs.GeneratedSteps.{Says}
use Rattle.linker_program.proofs.StepLemmas.{refused_build}
use Rattle.linker_program.proofs.GeneratedLemmas.{refusal_tells, image_tells}
use Rattle.linker_program.proofs.generate.make_image.Goals as goal

pub returns-in-Ok : goal.returns-in-Ok
returns-in-Ok g c =
    let options = options_said c.args.options.now in
    let planned = c.requires.planned in
    image_tells c.show_sums.result options c.args.plan.now.modules.items (plan_resources c.args.plan.now) (kept_parts c.args.plan.now) c.in-Ok.built c.args.count planned.link_is (ap (plan_fault options) (sym planned.link_is.parts_are) ∙ planned.no_fault) c.in-Ok.ensures.built
    (subst (λ (file : List ℕ). IfOk c.show_sums.result (λ answer. Says answer (image_told c.args.count file))) c.deref.ensures.value c.show_sums.ensures)

pub returns-in-Err-Fault : goal.returns-in-Err-Fault
returns-in-Err-Fault g c =
    let options = options_said c.args.options.now in
    let modules = c.args.plan.now.modules.items in
    let planned = c.requires.planned in
    let fault = c.in-Err-Fault.fault in
    let refuses : RefusesBuild options (kept_parts c.args.plan.now) (refusal.Fault fault) = rw c.in-Err-Fault.field-0-is at c.in-Err-Fault.ensures.refused in
    refusal_tells c.refused.result (ModulesOutcome options modules (plan_resources c.args.plan.now)) c.args.count fault
    (refused_build options modules (plan_resources c.args.plan.now) (kept_parts c.args.plan.now) (refusal.Fault fault) planned.link_is (ap (plan_fault options) (sym planned.link_is.parts_are) ∙ planned.no_fault) refuses) c.refused.ensures
