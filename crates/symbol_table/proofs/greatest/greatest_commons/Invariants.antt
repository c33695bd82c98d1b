use Rattle.std.proofs.Common.{map}
use Rattle.symbol_names.specs.Lists.{offered_by}
use Rattle.symbol_names.specs.Kept.{noted_view}
use Rattle.symbol_table.specs.Passes.{AreGreatest}
use Rattle.symbol_table.proofs.PassLemmas.{of_first}
use Rattle.symbol_table.proofs.greatest.greatest_commons.Given as goal

abbrev pub invariant-loop-position : goal.invariant-loop-position
invariant-loop-position l = AreGreatest l.names.keys (of_first offered_by (map noted_view l.modules) l.position) l.commons.items
