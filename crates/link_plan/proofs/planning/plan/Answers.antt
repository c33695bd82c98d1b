use Rattle.std.proofs.Common.{sym, subst}
use Rattle.std.specs.Prelude.{Err}
use Rattle.link_base.specs.declared.stop.Stop.{Stop}
use Rattle.link_files.specs.Outside.{files_of}
use Rattle.link_words.specs.Outcome.{options_said}
use Rattle.link_plan.specs.Planning.{Plans}
use Rattle.link_plan.proofs.PlanningLemmas.{gives_plan, refuses_plan, stops_plan}
use Rattle.link_plan.proofs.planning.plan.Goals as goal

pub plan_of-requires : goal.plan_of-requires
plan_of-requires g c = record {
  few = c.in-Ok.ensures.few;
  names = c.in-Ok.ensures.names_are;
  mergeable = c.in-Ok.ensures.mergeable;
  numbered = c.in-Ok.ensures.numbered;
}

pub returns-in-Ok-plan_of : goal.returns-in-Ok-plan_of
returns-in-Ok-plan_of g c =
    let options = options_said c.args.options.now in
    let before = files_of g.F.Files.store g.F.Files.read_faults g.F.Files.write_faults c.args.files.now in
    let after = files_of g.F.Files.store g.F.Files.read_faults g.F.Files.write_faults c.complete.new.files in
    gives_plan options before after c.in-Ok.list c.in-Ok-plan_of.plan c.in-Ok.ensures c.in-Ok-plan_of.ensures.planned c.in-Ok-plan_of.ensures.modules c.in-Ok-plan_of.ensures.resources

pub returns-in-Err-plan_of : goal.returns-in-Err-plan_of
returns-in-Err-plan_of g c =
    let options = options_said c.args.options.now in
    let before = files_of g.F.Files.store g.F.Files.read_faults g.F.Files.write_faults c.args.files.now in
    let after = files_of g.F.Files.store g.F.Files.read_faults g.F.Files.write_faults c.complete.new.files in
    subst (λ (stop : Stop). Plans options before after (Err stop)) (sym c.from.ensures)
    (refuses_plan options before after c.in-Ok.list c.in-Err-plan_of.refusal c.in-Ok.ensures c.in-Err-plan_of.ensures.refused)

pub returns-in-Err : goal.returns-in-Err
returns-in-Err g c =
    let options = options_said c.args.options.now in
    let before = files_of g.F.Files.store g.F.Files.read_faults g.F.Files.write_faults c.args.files.now in
    let after = files_of g.F.Files.store g.F.Files.read_faults g.F.Files.write_faults c.complete.new.files in
    stops_plan options before after c.in-Err.stop c.in-Err.ensures
