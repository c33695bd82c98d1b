use Rattle.export_tables.proofs.ClashLemmas.{NamesSoFar}
use Rattle.export_tables.proofs.clashes.second_name.Given as goal

abbrev pub invariant-loop-index : goal.invariant-loop-index
invariant-loop-index l = NamesSoFar l.rows l.index l.names.keys
