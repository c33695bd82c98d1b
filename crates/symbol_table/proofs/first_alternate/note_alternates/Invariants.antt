use Rattle.std.proofs.Common.{◌≡◌, ℕ, ◌++◌, List, length, take}
use Rattle.std.specs.List.{AllZip}
use Rattle.symbol_names.specs.Interning.{NotesAlternate}
use Rattle.symbol_table.specs.Passes.{AreAlternates}
use Rattle.symbol_table.proofs.first_alternate.note_alternates.Given as goal

abbrev pub invariant-loop-alternate : goal.invariant-loop-alternate
invariant-loop-alternate l = record {
  long : length l.alternates.items ≡ length l.names.keys;
  noted : (earlier entries : List (List ℕ × List ℕ)) → AllZip (NotesAlternate l.names.keys) entries l.noted → AreAlternates l.names.keys earlier l.initial.alternates.items
      → AreAlternates l.names.keys (earlier ++ take l.alternate-index entries) l.alternates.items;
}
