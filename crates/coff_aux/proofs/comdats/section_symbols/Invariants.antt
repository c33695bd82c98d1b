use Rattle.std.proofs.Common.{◌≡◌, ◌<◌, ◌+◌, ℕ, length, map}
use Rattle.coff_records.specs.ObjectFile.{section_total}
use Rattle.coff_object.proofs.CallerLemmas.{SymbolsLeft}
use Rattle.coff_aux.specs.Comdats.{section_symbols_of}
use Rattle.coff_aux.specs.Steps.{symbols_noted}
use Rattle.coff_aux.proofs.ComdatLemmas.{noted_then}
use Rattle.coff_aux.proofs.comdats.section_symbols.Given as goal

abbrev pub invariant-loop-index : goal.invariant-loop-index
invariant-loop-index l = record {
  can : (goal.iterator-loop-index).can_next l.index-iterator;
  ends : (goal.iterator-loop-index).is_finite l.index-iterator;
  left : SymbolsLeft l.object l.index-iterator;
  count : length (map symbols_noted l.symbols.items) ≡ section_total l.object;
  noted : (k : ℕ) → k < length (map symbols_noted l.symbols.items)
      → noted_then (map symbols_noted l.symbols.items) k l.index-iterator ≡ section_symbols_of l.object (k + 1);
}
