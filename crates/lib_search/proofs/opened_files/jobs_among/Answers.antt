use Rattle.std.proofs.Common.{Vec, Global, [], ◌∷◌, ◌++◌, ◌≤◌, length, take, All, sym, ap, subst, ◌∙◌, arith}
use Rattle.std.proofs.lemmas.List.Elements.{All-take}
use Rattle.link_base.specs.Limits.{FILE_LIMIT}
use Rattle.file_search.specs.declared.found.FoundFile.{FoundFile as Found}
use Rattle.par_read.specs.declared.job.Job.{Job}
use Rattle.lib_search.proofs.OpenedFileLemmas.{jobs_with, jobs_without, short_jobs}
use Rattle.lib_search.proofs.opened_files.jobs_among.Goals as goal
use Rattle.lib_search.proofs.opened_files.jobs_among.Goals.{then-is_module+in_ok-push, else-is_module}

pub loop-file-preserved : goal.loop-file-preserved
loop-file-preserved c =
    let files = c.args.files.now in
    let i = c.loop-file.file-index in
    let file = c.file-item.result in
    let jobs = c.loop-file.jobs.items in
    elim c.if-is_module.branch [
      | then-is_module+in_ok-push w ↦
          ap (λ (v : Vec Job Global). v.items) w.jobs-is
          ∙ (w.in_ok-push.ensures.items
          ∙ (ap (λ (job : Job). jobs ++ job ∷ []) w.job_of.ensures
          ∙ jobs_with files i file jobs (omega (arith, c.loop-file-test.true)) c.file-item.is (sym c.is_module.ensures ∙ w.if-is_module.true) c.loop-file.invariant))
      | else-is_module w ↦
          ap (λ (v : Vec Job Global). v.items) w.jobs-is
          ∙ jobs_without files i file jobs (omega (arith, c.loop-file-test.true)) c.file-item.is (sym c.is_module.ensures ∙ w.if-is_module.false) c.loop-file.invariant
    ]

pub returns-clause-short : goal.returns-clause-short
returns-clause-short c =
    let before = take c.loop-file.file-index c.args.files.now in
    subst (All (λ (job : Job). length job.bytes.now ≤ FILE_LIMIT)) (sym c.loop-file.invariant)
    (short_jobs before FILE_LIMIT (All-take (λ (file : Found). length file.bytes.now ≤ FILE_LIMIT) c.loop-file.file-index c.args.files.now c.requires))
