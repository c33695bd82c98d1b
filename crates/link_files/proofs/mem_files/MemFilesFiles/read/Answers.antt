use Rattle.std.proofs.Common.{ap, sym, subst, ◌∙◌, Some}
use Rattle.link_files.specs.FaultPlan.{fails_next}
use Rattle.link_files.specs.Reading.{ReadsFile, FailsAsPlanned}
use Rattle.link_files.specs.MemFiles.{MemState}
use Rattle.link_files.proofs.mem_files.MemFilesFiles.read.Goals as goal

pub returns-clause-reads : goal.returns-clause-reads
returns-clause-reads g c =
    subst (λ (s : MemState). ReadsFile (Some s.files) c.args.name.now c.args.limit s.read_faults c.self.inside.read_faults c.read.result) c.self.view_is (c.read.ensures.reads c.self.inside.read_faults)

pub returns-clause-planned : goal.returns-clause-planned
returns-clause-planned g c =
    subst (λ b. FailsAsPlanned b c.read.result) (sym c.if-fails_now.false ∙ c.fails_now.ensures.answer ∙ ap (λ (s : MemState). fails_next s.plan) c.self.view_is) c.read.ensures.never_fails
