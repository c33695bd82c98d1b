use Rattle.std.proofs.Common.{ℕ, List, ◌++◌, map, take}
use Rattle.std.specs.List.{All, AllZip}
use Rattle.symbol_names.specs.References.{Asked, asked_by_symbol}
use Rattle.symbol_names.specs.Interning.{KeepsNumbers, AreRecords, IsNamedSo, NotesAsked}
use Rattle.symbol_names.proofs.references.note_references.Given as goal

abbrev pub invariant-loop-reference : goal.invariant-loop-reference
invariant-loop-reference l = record {
  kept : KeepsNumbers l.initial.names.keys l.names.keys;
  noted : (earlier : List Asked) → AllZip (NotesAsked l.initial.names.keys) earlier l.initial.noted.items → AllZip (NotesAsked l.names.keys) (earlier ++ map asked_by_symbol (take l.reference-index l.references)) l.noted.items;
  records : (bytes : List ℕ) → All (λ reference. IsNamedSo bytes reference.symbol reference.name) l.references → AreRecords l.initial.names.keys bytes l.initial.records.items → AreRecords l.names.keys bytes l.records.items;
}
