use Rattle.link_files.specs.Outside.{files_of}
use Rattle.file_search.proofs.find.load_named.Goals as goal

pub returns : goal.returns
returns g c =
    c.found_by.ensures c.args.inputs.now _ (files_of g.F.Files.store g.F.Files.read_faults g.F.Files.write_faults c.args.files.now)
    (files_of g.F.Files.store g.F.Files.read_faults g.F.Files.write_faults _) c.load-loaded.ensures
