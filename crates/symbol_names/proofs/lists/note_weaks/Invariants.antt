use Rattle.std.proofs.Common.{take}
use Rattle.std.specs.List.{AllZip}
use Rattle.symbol_names.specs.Interning.{KeepsNumbers, AreRecords, NotesWeak}
use Rattle.symbol_names.proofs.lists.note_weaks.Given as goal

abbrev pub invariant-loop-weak : goal.invariant-loop-weak
invariant-loop-weak l = record {
  kept : KeepsNumbers l.initial.names.keys l.names.keys;
  noted : AllZip (NotesWeak l.names.keys l.«module».bytes) (take l.weak-index l.weaks) l.noted.items;
  records : AreRecords l.initial.names.keys l.«module».bytes l.initial.records.items → AreRecords l.names.keys l.«module».bytes l.records.items;
}
