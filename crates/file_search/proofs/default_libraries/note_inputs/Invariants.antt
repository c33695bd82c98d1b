use Rattle.std.proofs.Common.{take}
use Rattle.link_words.specs.SettingsView.{texts_of}
use Rattle.file_search.specs.DefaultSteps.{NotesMore}
use Rattle.file_search.proofs.default_libraries.note_inputs.Given as goal

abbrev pub invariant-loop-input : goal.invariant-loop-input
invariant-loop-input l = NotesMore l.fn.seen l.seen (texts_of (take l.input-index l.inputs))
