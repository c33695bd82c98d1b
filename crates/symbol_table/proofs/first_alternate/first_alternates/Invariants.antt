use Rattle.std.proofs.Common.{◌≡◌, ℕ, ◌++◌, List, length, map}
use Rattle.std.specs.List.{AllZip}
use Rattle.symbol_names.specs.Alternates.{alternates_by}
use Rattle.symbol_names.specs.Interning.{NotesAlternate}
use Rattle.symbol_names.specs.Kept.{noted_view}
use Rattle.symbol_table.specs.Passes.{AreAlternates}
use Rattle.symbol_table.proofs.PassLemmas.{of_first}
use Rattle.symbol_table.proofs.first_alternate.first_alternates.Given as goal

abbrev pub invariant-loop-module : goal.invariant-loop-module
invariant-loop-module l = record {
  long : length l.alternates.items ≡ length l.names.keys;
  noted : (pairs : List (List ℕ × List ℕ)) → AllZip (NotesAlternate l.names.keys) pairs l.given
      → AreAlternates l.names.keys (pairs ++ of_first alternates_by (map noted_view l.modules) l.module-index) l.alternates.items;
}
