use Rattle.std.proofs.Common.{ℕ, List, take}
use Rattle.std.specs.List.{All, AllZip}
use Rattle.symbol_names.specs.Interning.{KeepsNumbers, AreRecords, IsNamedSo, NotesCommon}
use Rattle.symbol_names.proofs.lists.note_commons.Given as goal

abbrev pub invariant-loop-common : goal.invariant-loop-common
invariant-loop-common l = record {
  kept : KeepsNumbers l.initial.names.keys l.names.keys;
  noted : AllZip (NotesCommon l.names.keys) (take l.common-index l.commons) l.noted.items;
  records : (bytes : List ℕ) → All (λ common. IsNamedSo bytes common.symbol common.name) l.commons → AreRecords l.initial.names.keys bytes l.initial.records.items → AreRecords l.names.keys bytes l.records.items;
}
