use Rattle.coff_object.proofs.WellFormedLemmas.{no_fault, range_holds}
use Rattle.coff_object.proofs.object.Object.symbols.Goals as goal

pub of-requires-clause-records : goal.of-requires-clause-records
of-requires-clause-records c = rw c.again.ensures (range_holds _ (no_fault _ c.self.invariant.well_formed).symbols)
