use Rattle.relocate.proofs.OrderLemmas.{bytes_in_any_order, range_in_any_order, no_range_in_any_order}
use Rattle.relocate.proofs.laws.patches_in_any_order.Goals as goal

pub returns-clause-bytes : goal.returns-clause-bytes
returns-clause-bytes c = bytes_in_any_order

pub returns-clause-refused : goal.returns-clause-refused
returns-clause-refused c = range_in_any_order

pub returns-clause-in_range : goal.returns-clause-in_range
returns-clause-in_range c = no_range_in_any_order
