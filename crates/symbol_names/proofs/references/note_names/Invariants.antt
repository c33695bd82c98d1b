use Rattle.std.proofs.Common.{List, ◌++◌, take}
use Rattle.std.specs.List.{AllZip}
use Rattle.symbol_names.specs.References.{Asked}
use Rattle.symbol_names.specs.Interning.{KeepsNumbers, NotesAsked}
use Rattle.symbol_names.proofs.NotedLemmas.{included}
use Rattle.symbol_names.proofs.references.note_names.Given as goal

abbrev pub invariant-loop-directive : goal.invariant-loop-directive
invariant-loop-directive l = record {
  kept : KeepsNumbers l.initial.names.keys l.names.keys;
  noted : (earlier : List Asked) → AllZip (NotesAsked l.initial.names.keys) earlier l.initial.noted.items → AllZip (NotesAsked l.names.keys) (earlier ++ included (take l.directive-index l.directives)) l.noted.items;
}
