use Rattle.std.proofs.Common.{◌≡◌}
use Rattle.coff_records.specs.SymbolRecord.{lacks_symbol_name}
use Rattle.coff_object.specs.ObjectFaults.{of_symbol, first_of, first_symbol}
use Rattle.coff_records.proofs.CallerLemmas.{SymbolsLeft}
use Rattle.coff_object.proofs.symbol_fault.symbol_name_fault.Given as goal

abbrev pub invariant-loop-index : goal.invariant-loop-index
invariant-loop-index l = record {
  can : (goal.iterator-loop-index).can_next l.index-iterator;
  ends : (goal.iterator-loop-index).is_finite l.index-iterator;
  left : SymbolsLeft l.file l.index-iterator;
  first : first_symbol l.file lacks_symbol_name ≡ first_of (of_symbol lacks_symbol_name) l.index-iterator;
}
