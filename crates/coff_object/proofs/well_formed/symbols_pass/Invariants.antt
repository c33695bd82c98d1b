use Rattle.std.proofs.Common.{◌≡◌}
use Rattle.coff_records.specs.ObjectFile.{symbol_entries}
use Rattle.coff_object.specs.ObjectFaults.{first_of}
use Rattle.coff_object.specs.AnyFault.{symbol_fails}
use Rattle.coff_records.proofs.CallerLemmas.{SymbolsLeft}
use Rattle.coff_object.proofs.well_formed.symbols_pass.Given as goal

abbrev pub invariant-loop-index : goal.invariant-loop-index
invariant-loop-index l = record {
  can : (goal.iterator-loop-index).can_next l.index-iterator;
  ends : (goal.iterator-loop-index).is_finite l.index-iterator;
  left : SymbolsLeft l.file l.index-iterator;
  first : first_of (symbol_fails l.file) (symbol_entries l.file) ≡ first_of (symbol_fails l.file) l.index-iterator;
}
