use Rattle.link_files.specs.Outside.{files_of}
use Rattle.link_words.specs.Outcome.{options_said}
use Rattle.lib_search.specs.Completion.{FailsLoading}
use Rattle.link_plan.specs.Planning.{FaultsPlan}
use Rattle.linker_program.specs.Outcome.{LinkOutcome}
use Rattle.linker_program.proofs.StepLemmas.{if_unplanned, if_planned, on_left_planned, if_read_failed, on_nothing, on_unread}
use Rattle.linker_program.proofs.link.link.Goals as goal

pub link_planned-answer-requires-clause-planned : goal.link_planned-answer-requires-clause-planned
link_planned-answer-requires-clause-planned g c κs within = c.in-Ok.ensures.planned

pub returns-in-Ok-clause-answered : goal.returns-in-Ok-clause-answered
returns-in-Ok-clause-answered g c =
    let before = files_of g.F.Files.store g.F.Files.read_faults g.F.Files.write_faults c.args.files.now in
    let later = files_of g.F.Files.store g.F.Files.read_faults g.F.Files.write_faults c.plan.new.files in
    let after = files_of g.F.Files.store g.F.Files.read_faults g.F.Files.write_faults c.link_planned-answer.new.files in
    if_planned c.link_planned-answer.result (options_said c.args.options.now) before later after c.in-Ok.plan c.in-Ok.ensures c.link_planned-answer.ensures.answered

pub returns-in-Ok-clause-memory : goal.returns-in-Ok-clause-memory
returns-in-Ok-clause-memory g c =
    let before = files_of g.F.Files.store g.F.Files.read_faults g.F.Files.write_faults c.args.files.now in
    let later = files_of g.F.Files.store g.F.Files.read_faults g.F.Files.write_faults c.plan.new.files in
    let after = files_of g.F.Files.store g.F.Files.read_faults g.F.Files.write_faults c.link_planned-answer.new.files in
    on_left_planned c.link_planned-answer.result (options_said c.args.options.now) before later after c.in-Ok.plan c.in-Ok.ensures c.link_planned-answer.ensures.memory

pub returns-in-Err-Fault-clause-answered : goal.returns-in-Err-Fault-clause-answered
returns-in-Err-Fault-clause-answered g c =
    let before = files_of g.F.Files.store g.F.Files.read_faults g.F.Files.write_faults c.args.files.now in
    let later = files_of g.F.Files.store g.F.Files.read_faults g.F.Files.write_faults c.plan.new.files in
    let options = options_said c.args.options.now in
    let faults : FaultsPlan options before later c.in-Err-Fault.fault = rw c.in-Err-Fault.field-0-is at c.in-Err-Fault.ensures in
    if_unplanned c.refused.result options before later c.in-Err-Fault.fault faults c.refused.ensures

pub returns-in-Err-Fault-clause-memory : goal.returns-in-Err-Fault-clause-memory
returns-in-Err-Fault-clause-memory g c =
    let before = files_of g.F.Files.store g.F.Files.read_faults g.F.Files.write_faults c.args.files.now in
    let later = files_of g.F.Files.store g.F.Files.read_faults g.F.Files.write_faults c.plan.new.files in
    let faults : FaultsPlan (options_said c.args.options.now) before later c.in-Err-Fault.fault = rw c.in-Err-Fault.field-0-is at c.in-Err-Fault.ensures in
    on_nothing c.refused.result (LinkOutcome (options_said c.args.options.now)) before later faults.files

pub returns-in-Err-Read-clause-answered : goal.returns-in-Err-Read-clause-answered
returns-in-Err-Read-clause-answered g c =
    let before = files_of g.F.Files.store g.F.Files.read_faults g.F.Files.write_faults c.args.files.now in
    let later = files_of g.F.Files.store g.F.Files.read_faults g.F.Files.write_faults c.plan.new.files in
    let options = options_said c.args.options.now in
    let fails : FailsLoading options before later c.in-Err-Read.name = rw c.in-Err-Read.field-0-is at c.in-Err-Read.ensures in
    if_read_failed c.read_failed.result options before later c.in-Err-Read.name fails c.read_failed.ensures

pub returns-in-Err-Read-clause-memory : goal.returns-in-Err-Read-clause-memory
returns-in-Err-Read-clause-memory g c =
    let before = files_of g.F.Files.store g.F.Files.read_faults g.F.Files.write_faults c.args.files.now in
    let later = files_of g.F.Files.store g.F.Files.read_faults g.F.Files.write_faults c.plan.new.files in
    let fails : FailsLoading (options_said c.args.options.now) before later c.in-Err-Read.name = rw c.in-Err-Read.field-0-is at c.in-Err-Read.ensures in
    on_unread c.read_failed.result (LinkOutcome (options_said c.args.options.now)) before later fails.files
