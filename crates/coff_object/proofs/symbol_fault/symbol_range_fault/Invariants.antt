use Rattle.std.proofs.Common.{◌≡◌, ◌-◌, map}
use Rattle.coff_records.specs.ObjectFile.{starts_from, symbol_entry, symbol_entries}
use Rattle.coff_object.specs.ObjectFaults.{aux_leave, first_of}
use Rattle.coff_object.proofs.symbol_fault.symbol_range_fault.Given as goal

abbrev pub invariant-loop-index : goal.invariant-loop-index
invariant-loop-index l =
    first_of (aux_leave l.file) (symbol_entries l.file) ≡ first_of (aux_leave l.file) (map (symbol_entry l.file) (starts_from l.file l.index))

abbrev pub decreases-loop-index : goal.decreases-loop-index
decreases-loop-index l = l.whole - l.index
