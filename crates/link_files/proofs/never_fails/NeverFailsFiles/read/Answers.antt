use Rattle.std.proofs.Common.{subst, Some}
use Rattle.link_files.specs.Store.{Store}
use Rattle.link_files.specs.Reading.{ReadsFile}
use Rattle.link_files.proofs.never_fails.NeverFailsFiles.read.Goals as goal

pub returns-clause-reads : goal.returns-clause-reads
returns-clause-reads g c =
    subst (λ (files : Store). ReadsFile (Some files) c.args.name.now c.args.limit 0 0 c.read.result) c.self.view_is (c.read.ensures.reads 0)
