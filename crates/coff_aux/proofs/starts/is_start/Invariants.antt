use Rattle.std.proofs.Common.{◌≡◌, eqb}
use Rattle.std.specs.List.{list_any}
use Rattle.coff_records.specs.ObjectFile.{starts_symbol}
use Rattle.coff_aux.proofs.starts.is_start.Given as goal

abbrev pub invariant-loop-index : goal.invariant-loop-index
invariant-loop-index l = record {
  can : (goal.iterator-loop-index).can_next l.index-iterator;
  ends : (goal.iterator-loop-index).is_finite l.index-iterator;
  left : list_any (λ entry. eqb entry.0 l.j) l.index-iterator ≡ starts_symbol l.object l.j;
}
