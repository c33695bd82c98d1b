use Rattle.std.specs.List.{count_by}
use Rattle.symbol_table.proofs.ChainLemmas.{IsPath, leads_on}
use Rattle.symbol_table.proofs.chains.follow.Given as goal

abbrev pub invariant-loop-next : goal.invariant-loop-next
invariant-loop-next l = IsPath l.initial.links.items l.links.items l.path.items l.number l.at

abbrev pub decreases-loop-next : goal.decreases-loop-next
decreases-loop-next l = count_by leads_on l.links.items
