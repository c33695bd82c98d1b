use Rattle.std.proofs.Common.{◌≡◌, map, take}
use Rattle.section_group.proofs.order.indexes_of.Given as goal

abbrev pub invariant-loop-key : goal.invariant-loop-key
invariant-loop-key l = l.indexes.items ≡ map (λ key. key.index) (take l.key-index l.keys)
