use Rattle.std.proofs.Common.{◌≡◌, ◌++◌}
use Rattle.std.specs.List.{filter_map}
use Rattle.coff_records.specs.ObjectFile.{symbol_entries}
use Rattle.debug_rows.specs.Publics.{symbol_public}
use Rattle.debug_rows.proofs.link_publics.push_symbols.Given as goal

abbrev pub invariant-loop-at : goal.invariant-loop-at
invariant-loop-at l = record {
  can : (goal.iterator-loop-at).can_next l.at-iterator;
  ends : (goal.iterator-loop-at).is_finite l.at-iterator;
  rows : l.publics.items ++ filter_map (symbol_public l.names l.position) l.at-iterator ≡ l.fn.publics.items ++ filter_map (symbol_public l.names l.position) (symbol_entries l.object);
}
