use Rattle.std.proofs.Common.{◌≡◌, map, take}
use Rattle.export_tables.proofs.row_order.indexes_of.Given as goal

abbrev pub invariant-loop-entry : goal.invariant-loop-entry
invariant-loop-entry l = l.indexes.items ≡ map (λ entry. entry.index) (take l.entry-index l.entries)
