use Rattle.std.proofs.Common.{◌≡◌, ◌++◌, List, length, map, take}
use Rattle.module_view.specs.SymbolLists.{weaks_of}
use Rattle.symbol_names.specs.Lists.{Said, said}
use Rattle.symbol_table.specs.Passes.{AreWeaks}
use Rattle.symbol_table.proofs.first_weak.note_weaks.Given as goal

abbrev pub invariant-loop-weak : goal.invariant-loop-weak
invariant-loop-weak l = record {
  long : length l.weaks.items ≡ length l.names.keys;
  noted : (earlier : List Said) → AreWeaks l.names.keys earlier l.initial.weaks.items
      → AreWeaks l.names.keys (earlier ++ map (said l.position l.«module».bytes.now) (take l.weak-index (weaks_of l.«module».bytes.now))) l.weaks.items;
}
