use Rattle.comdat.specs.ChosenBy.{by_choices}
use Rattle.comdat.proofs.OrderLemmas.{OrderSoFar}
use Rattle.comdat.proofs.rows.flags_in_order.Given as goal

abbrev pub invariant-loop-index : goal.invariant-loop-index
invariant-loop-index l = OrderSoFar (by_choices l.choices) l.selected l.rest l.flags.items l.index
