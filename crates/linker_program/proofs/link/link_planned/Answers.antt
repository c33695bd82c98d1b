use Rattle.link_files.specs.Outside.{files_of}
use Rattle.link_words.specs.Outcome.{options_said}
use Rattle.link_plan.specs.Plan.{plan_resources}
use Rattle.linker_program.specs.LinkRun.{LinkTries}
use Rattle.linker_program.specs.Steps.{ModulesHave}
use Rattle.linker_program.proofs.StepLemmas.{untouched, if_refused, if_written, on_left}
use Rattle.linker_program.proofs.link.link_planned.Goals as goal

pub returns-in-Ok-clause-answered : goal.returns-in-Ok-clause-answered
returns-in-Ok-clause-answered g c =
    let options = options_said c.args.options.now in
    if_written c.write_linked.result options c.args.plan.now.modules.items (plan_resources c.args.plan.now) (LinkTries options)
    (files_of g.F.Files.store g.F.Files.read_faults g.F.Files.write_faults c.args.files.now)
    (files_of g.F.Files.store g.F.Files.read_faults g.F.Files.write_faults c.write_linked.new.files)
    c.in-Ok.linked c.in-Ok.ensures.linked c.write_linked.ensures.written

pub returns-in-Ok-clause-memory : goal.returns-in-Ok-clause-memory
returns-in-Ok-clause-memory g c =
    on_left c.write_linked.result (options_said c.args.options.now) c.args.plan.now.modules.items (plan_resources c.args.plan.now)
    (files_of g.F.Files.store g.F.Files.read_faults g.F.Files.write_faults c.args.files.now)
    (files_of g.F.Files.store g.F.Files.read_faults g.F.Files.write_faults c.write_linked.new.files)
    c.in-Ok.linked c.in-Ok.ensures.linked c.write_linked.ensures.memory

pub returns-in-Err-Fault-clause-answered : goal.returns-in-Err-Fault-clause-answered
returns-in-Err-Fault-clause-answered g c =
    let options = options_said c.args.options.now in
    let files = files_of g.F.Files.store g.F.Files.read_faults g.F.Files.write_faults c.args.files.now in
    if_refused c.refused.result (ModulesHave options c.args.plan.now.modules.items (plan_resources c.args.plan.now)) (LinkTries options) files files c.in-Err-Fault.fault (untouched files)
    (record { told = λ store told. rw c.in-Err-Fault.field-0-is at c.in-Err-Fault.ensures.refused }) c.refused.ensures
