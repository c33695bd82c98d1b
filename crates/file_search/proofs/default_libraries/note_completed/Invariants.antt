use Rattle.std.proofs.Common.{map, take}
use Rattle.link_words.specs.SettingsView.{texts_of}
use Rattle.file_search.specs.FileNames.{completed}
use Rattle.file_search.specs.DefaultSteps.{NotesMore}
use Rattle.file_search.proofs.default_libraries.note_completed.Given as goal

abbrev pub invariant-loop-name : goal.invariant-loop-name
invariant-loop-name l = NotesMore l.fn.seen l.seen (map completed (texts_of (take l.name-index l.names)))
