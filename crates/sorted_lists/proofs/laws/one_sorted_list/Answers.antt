use Rattle.sorted_lists.proofs.SortLemmas.{order_permutes, order_sorted, is_in_order}
use Rattle.sorted_lists.proofs.laws.one_sorted_list.Goals as goal

pub returns-clause-items : goal.returns-clause-items
returns-clause-items g c = order_permutes

pub returns-clause-ascends : goal.returns-clause-ascends
returns-clause-ascends g c = order_sorted

pub returns-clause-one : goal.returns-clause-one
returns-clause-one g c = is_in_order
