use Rattle.std.proofs.Common.{◌≡◌}
use Rattle.coff_records.specs.ObjectFile.{symbol_entries}
use Rattle.coff_object.specs.ObjectFaults.{first_of}
use Rattle.coff_object.proofs.CallerLemmas.{SymbolsLeft}
use Rattle.coff_aux.specs.AuxFaults.{is_bad_weak}
use Rattle.coff_aux.proofs.weaks.first_bad_weak.Given as goal

abbrev pub invariant-loop-index : goal.invariant-loop-index
invariant-loop-index l = record {
  can : (goal.iterator-loop-index).can_next l.index-iterator;
  ends : (goal.iterator-loop-index).is_finite l.index-iterator;
  left : SymbolsLeft l.object l.index-iterator;
  first : first_of (is_bad_weak l.object) (symbol_entries l.object) ≡ first_of (is_bad_weak l.object) l.index-iterator;
}
