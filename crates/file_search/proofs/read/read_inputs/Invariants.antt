use Rattle.link_files.specs.Outside.{files_of}
use Rattle.link_words.specs.Outcome.{options_said}
use Rattle.file_search.specs.Reading.{files_found}
use Rattle.file_search.proofs.ReadLemmas.{ReadSoFar}
use Rattle.file_search.proofs.read.read_inputs.Given as goal

abbrev pub invariant-loop-name : goal.invariant-loop-name
invariant-loop-name g l =
    ReadSoFar (options_said l.options) l.name-index l.inputs
    (files_of g.F.Files.store g.F.Files.read_faults g.F.Files.write_faults l.fn.files)
    (files_of g.F.Files.store g.F.Files.read_faults g.F.Files.write_faults l.files)
    (files_found l.all.items)
