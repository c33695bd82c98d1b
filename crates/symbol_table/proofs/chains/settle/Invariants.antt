use Rattle.symbol_table.proofs.ChainLemmas.{AreSettled}
use Rattle.symbol_table.proofs.chains.settle.Given as goal

abbrev pub invariant-loop-number : goal.invariant-loop-number
invariant-loop-number l = AreSettled l.names.keys l.initial.links.items l.links.items l.number
