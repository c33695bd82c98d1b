use Rattle.pdata_table.proofs.TableLemmas.{AscendUpTo}
use Rattle.pdata_table.proofs.sorting.is_sorted.Given as goal

abbrev pub invariant-loop-index : goal.invariant-loop-index
invariant-loop-index l = AscendUpTo l.table l.index
