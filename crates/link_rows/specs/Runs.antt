-- A run over files in memory: what it begins with, and what comes of it. Own.
use Rattle.std.specs.Prelude.{ℕ, List, [], map, fold, Some}
use Rattle.std.specs.Borrow.{Bor}
use Rattle.link_files.specs.Store.{Store, no_files, with_file}
use Rattle.link_files.specs.MemSink.{SinkState}
use Rattle.link_files.specs.Outside.{FilesView, SinkView}
use Rattle.linker_program.specs.LinkRun.{Ran, IsOwed}

-- ---- what it begins with

-- the texts of the words, in their order
abbrev pub texts : List (Bor (List ℕ)) → List (List ℕ)
texts words = map (λ word. word.now) words

-- a file's name and its bytes
abbrev pub Named : Type 0
Named = Bor (List ℕ) × Bor (List ℕ)

-- the store of the files, each in place of one before it of its name
abbrev pub stored : List Named → Store
stored files = fold (λ store file. with_file store file.0.now file.1.now) no_files files

-- ---- what comes of it

-- the files as a run sees them, where no call fails
abbrev pub unfailed : Store → FilesView
unfailed store = record { store = Some store; read_faults = 0; write_faults = 0 }

-- what was printed
abbrev pub shown : SinkState → SinkView
shown sink = record { taken = Some sink.taken; faults = sink.faults }

-- nothing was, and no put failed
abbrev pub silent : SinkView
silent = record { taken = Some []; faults = 0 }

-- a run of the linker with these words: what it left, printed, and ended with
pub record IsRun (words : List (List ℕ)) (before after : FilesView) (printed : SinkView) (status : ℕ) : Type 0 where
  pub ran : Ran words before after silent printed status
  pub owed : IsOwed words before after silent printed status
