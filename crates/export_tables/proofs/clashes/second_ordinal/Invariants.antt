use Rattle.export_tables.proofs.ClashLemmas.{OrdinalsSoFar}
use Rattle.export_tables.proofs.clashes.second_ordinal.Given as goal

abbrev pub invariant-loop-index : goal.invariant-loop-index
invariant-loop-index l = OrdinalsSoFar l.rows l.index l.ordinals.keys
