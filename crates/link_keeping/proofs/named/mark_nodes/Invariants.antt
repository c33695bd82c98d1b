use Rattle.std.proofs.Common.{◌≡◌, ◌<◌, ◌||◌, ℕ, false, length, get_or, take}
use Rattle.std.specs.List.{list_any}
use Rattle.link_keeping.specs.Named.{is_at}
use Rattle.link_keeping.proofs.named.mark_nodes.Given as goal

abbrev pub invariant-loop-node : goal.invariant-loop-node
invariant-loop-node l = record {
  same_length : length l.meant.items ≡ length l.fn.meant.items;
  marked : (k : ℕ) → k < length l.fn.meant.items → get_or l.meant.items k false ≡ (get_or l.fn.meant.items k false || list_any (is_at l.places k) (take l.node-index l.nodes));
}
