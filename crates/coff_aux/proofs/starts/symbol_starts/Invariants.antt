use Rattle.std.proofs.Common.{◌≡◌, ℕ, false, ◌||◌, eqb, length, get_or}
use Rattle.std.specs.List.{list_any}
use Rattle.coff_records.specs.ObjectFile.{record_total, starts_symbol}
use Rattle.coff_object.proofs.CallerLemmas.{SymbolsLeft}
use Rattle.coff_aux.proofs.starts.symbol_starts.Given as goal

abbrev pub invariant-loop-index : goal.invariant-loop-index
invariant-loop-index l = record {
  can : (goal.iterator-loop-index).can_next l.index-iterator;
  ends : (goal.iterator-loop-index).is_finite l.index-iterator;
  left : SymbolsLeft l.object l.index-iterator;
  count : length l.starts.items ≡ record_total l.object;
  starts : (j : ℕ) → (get_or l.starts.items j false || list_any (λ entry. eqb entry.0 j) l.index-iterator) ≡ starts_symbol l.object j;
}
