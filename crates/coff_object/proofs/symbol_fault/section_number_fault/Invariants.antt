use Rattle.std.proofs.Common.{◌≡◌}
use Rattle.coff_object.specs.ObjectFaults.{of_symbol, first_of, first_symbol, has_no_section}
use Rattle.coff_object.proofs.symbol_fault.section_number_fault.Given as goal

abbrev pub invariant-loop-index : goal.invariant-loop-index
invariant-loop-index l = record {
  can : (goal.iterator-loop-index).can_next l.index-iterator;
  ends : (goal.iterator-loop-index).is_finite l.index-iterator;
  first : first_symbol l.file (has_no_section l.file) ≡ first_of (of_symbol (has_no_section l.file)) l.index-iterator;
}
