use Rattle.std.proofs.Common.{length}
use Rattle.symbol_table.proofs.resolved.ResolvedNames.+resolve.Given as goal

abbrev pub decreases-resolve : goal.decreases-resolve
decreases-resolve l = length l.name
