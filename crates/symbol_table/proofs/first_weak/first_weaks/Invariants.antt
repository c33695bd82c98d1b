use Rattle.std.proofs.Common.{map}
use Rattle.symbol_names.specs.Lists.{said_by}
use Rattle.symbol_names.specs.Kept.{noted_view}
use Rattle.symbol_table.specs.Passes.{AreWeaks}
use Rattle.symbol_table.proofs.PassLemmas.{of_first}
use Rattle.symbol_table.proofs.first_weak.first_weaks.Given as goal

abbrev pub invariant-loop-position : goal.invariant-loop-position
invariant-loop-position l = AreWeaks l.names.keys (of_first said_by (map noted_view l.modules) l.position) l.weaks.items
