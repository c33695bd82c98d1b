use Rattle.std.proofs.Common.{refl, arith}
use Rattle.link_words.specs.Outcome.{options_said}
use Rattle.lib_search.specs.Completion.{FailsLoading}
use Rattle.link_plan.specs.Plan.{plan_resources}
use Rattle.link_plan.specs.Planning.{FaultsPlan}
use Rattle.linker_program.specs.Outcome.{LinkOutcome}
use Rattle.linker_program.proofs.StepLemmas.{shown_fault, if_shown}
use Rattle.linker_program.proofs.GeneratedLemmas.{unfailed, refusal_tells, planned_tells}
use Rattle.linker_program.proofs.generate.link_by_options.Goals as goal

pub make_image-requires-clause-planned : goal.make_image-requires-clause-planned
make_image-requires-clause-planned g c κs within = c.in-Ok.ensures.planned

pub returns-in-Ok : goal.returns-in-Ok
returns-in-Ok g c =
    planned_tells c.make_image.result (options_said c.args.options.now) c.args.files.now c.in-Ok.plan.modules.items (plan_resources c.in-Ok.plan) c.args.count (c.in-Ok.ensures.told c.args.files.now refl) c.make_image.ensures

pub returns-in-Err-Fault : goal.returns-in-Err-Fault
returns-in-Err-Fault g c =
    let options = options_said c.args.options.now in
    let before = unfailed c.args.files.now in
    let fault = c.in-Err-Fault.fault in
    let faults : FaultsPlan options before (unfailed c.plan.new.files) fault = rw c.in-Err-Fault.field-0-is at c.in-Err-Fault.ensures in
    let shown = shown_fault options c.args.files.now fault (faults.told c.args.files.now refl) in
    refusal_tells c.refused.result (LinkOutcome options c.args.files.now) c.args.count shown.shown shown.outcome (if_shown c.refused.result options c.args.files.now fault shown c.refused.ensures)

pub unreachable-requires : goal.unreachable-requires
unreachable-requires g c =
    let fails : FailsLoading (options_said c.args.options.now) (unfailed c.args.files.now) (unfailed c.plan.new.files) c.in-Err-Read.field-0-0 = rw c.in-Err-Read.field-0-is at c.in-Err-Read.ensures in
    omega (arith, fails.files.reads)
