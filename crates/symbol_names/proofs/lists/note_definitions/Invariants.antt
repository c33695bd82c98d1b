use Rattle.std.proofs.Common.{ℕ, List, take}
use Rattle.std.specs.List.{All, AllZip}
use Rattle.symbol_names.specs.Interning.{KeepsNumbers, AreRecords, IsNamedSo, NotesDefinition}
use Rattle.symbol_names.proofs.lists.note_definitions.Given as goal

abbrev pub invariant-loop-definition : goal.invariant-loop-definition
invariant-loop-definition l = record {
  kept : KeepsNumbers l.initial.names.keys l.names.keys;
  noted : AllZip (NotesDefinition l.names.keys) (take l.definition-index l.definitions) l.noted.items;
  records : (bytes : List ℕ) → All (λ definition. IsNamedSo bytes definition.symbol definition.name) l.definitions → AreRecords l.initial.names.keys bytes l.initial.records.items → AreRecords l.names.keys bytes l.records.items;
}
