use Rattle.std.proofs.Common.{◌≡◌, None}
use Rattle.coff_object.specs.ObjectFaults.{of_symbol, first_of, first_symbol, has_no_section, value_exceeds}
use Rattle.coff_object.proofs.symbol_fault.value_fault.Given as goal

abbrev pub invariant-loop-index : goal.invariant-loop-index
invariant-loop-index l = record {
  can : (goal.iterator-loop-index).can_next l.index-iterator;
  ends : (goal.iterator-loop-index).is_finite l.index-iterator;
  numbers : first_of (of_symbol (has_no_section l.file)) l.index-iterator ≡ None;
  first : first_symbol l.file (value_exceeds l.file) ≡ first_of (of_symbol (value_exceeds l.file)) l.index-iterator;
}
