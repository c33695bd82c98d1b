use Rattle.std.proofs.Common.{◌≡◌, true, ℕ, ◌<◌}
use Rattle.symbol_table.specs.Links.{link_at, end_of}
use Rattle.symbol_table.specs.Meant.{is_standing}
use Rattle.symbol_table.proofs.resolved.ResolvedNames.all_stand.Given as goal

abbrev pub invariant-loop-link : goal.invariant-loop-link
invariant-loop-link l = (n : ℕ) → n < l.link-index → is_standing (end_of (link_at l.link-items n)) ≡ true
