use Rattle.std.proofs.Common.{◌≡◌, ◌++◌}
use Rattle.std.specs.List.{flat_map}
use Rattle.std.specs.Vec.Iter.{into_iter_items}
use Rattle.par_read.proofs.opening.in_one_list.Given as goal

abbrev pub invariant-loop-list : goal.invariant-loop-list
invariant-loop-list l = l.answers.items ++ flat_map (λ list. list.items) (into_iter_items l.list-iterator) ≡ flat_map (λ list. list.items) l.fn.lists.items
