use Rattle.std.proofs.Common.{take}
use Rattle.std.specs.List.{AllZip}
use Rattle.symbol_names.specs.Interning.{KeepsNumbers, NotesAlternate}
use Rattle.symbol_names.proofs.alternates.note_alternates.Given as goal

abbrev pub invariant-loop-pair : goal.invariant-loop-pair
invariant-loop-pair l = record {
  kept : KeepsNumbers l.initial.names.keys l.names.keys;
  noted : AllZip (NotesAlternate l.names.keys) (take l.pair-index l.pairs) l.noted.items;
}
