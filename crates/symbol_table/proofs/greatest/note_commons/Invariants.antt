use Rattle.std.proofs.Common.{◌≡◌, ◌++◌, List, length, map, take}
use Rattle.module_view.specs.SymbolLists.{commons_of}
use Rattle.symbol_names.specs.Lists.{Offered, offered}
use Rattle.symbol_table.specs.Passes.{AreGreatest}
use Rattle.symbol_table.proofs.greatest.note_commons.Given as goal

abbrev pub invariant-loop-common : goal.invariant-loop-common
invariant-loop-common l = record {
  long : length l.commons.items ≡ length l.names.keys;
  noted : (earlier : List Offered) → AreGreatest l.names.keys earlier l.initial.commons.items
      → AreGreatest l.names.keys (earlier ++ map (offered l.position) (take l.common-index (commons_of l.«module».bytes.now))) l.commons.items;
}
