use Rattle.std.proofs.Common.{◌∷◌, ◌+◌, map}
use Rattle.link_files.specs.Outside.{files_of}
use Rattle.link_words.specs.SettingsView.{texts_of}
use Rattle.file_search.specs.FileNames.{in_folder}
use Rattle.file_search.proofs.FindLemmas.{NoneThere}
use Rattle.file_search.proofs.find.find_file.Given as goal

abbrev pub invariant-loop-index : goal.invariant-loop-index
invariant-loop-index g l =
    NoneThere (l.name ∷ map (in_folder l.name) (texts_of l.searched)) (l.index + 1) l.fn.inputs l.inputs
    (files_of g.F.Files.store g.F.Files.read_faults g.F.Files.write_faults l.fn.files)
    (files_of g.F.Files.store g.F.Files.read_faults g.F.Files.write_faults l.files)
