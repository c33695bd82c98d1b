use Rattle.export_tables.proofs.OrdinalLemmas.{NumberedSoFar}
use Rattle.export_tables.proofs.ordinals.numbered.Given as goal

abbrev pub invariant-loop-index : goal.invariant-loop-index
invariant-loop-index l = NumberedSoFar l.rows l.index l.ordinals.items
