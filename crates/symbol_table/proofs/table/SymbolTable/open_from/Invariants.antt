use Rattle.std.proofs.Common.{◌≡◌, ◌<◌, ◌≤◌, ℕ, false}
use Rattle.symbol_table.specs.OpenNames.{is_open_at}
use Rattle.symbol_table.proofs.table.SymbolTable.open_from.Given as goal

abbrev pub invariant-loop-at : goal.invariant-loop-at
invariant-loop-at l = (k : ℕ) → l.number ≤ k → k < l.at → is_open_at l.self k ≡ false
