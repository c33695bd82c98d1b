use Rattle.std.proofs.Common.{map, take}
use Rattle.std.specs.List.{AllZip}
use Rattle.symbol_names.specs.References.{asked_by_name}
use Rattle.symbol_names.specs.Interning.{KeepsNumbers, NotesAsked}
use Rattle.symbol_names.proofs.references.note_words.Given as goal

abbrev pub invariant-loop-word : goal.invariant-loop-word
invariant-loop-word l = record {
  kept : KeepsNumbers l.initial.names.keys l.names.keys;
  noted : AllZip (NotesAsked l.names.keys) (map asked_by_name (take l.word-index l.words)) l.noted.items;
}
