use Rattle.std.proofs.Common.{◌≡◌, ◌<◌, ◌||◌, ℕ, true, false, length, get_or, take}
use Rattle.std.specs.List.{list_any}
use Rattle.link_keeping.specs.Named.{leads_there, LeadsWithin}
use Rattle.link_keeping.proofs.named.mark_meant.Given as goal

abbrev pub invariant-loop-edge : goal.invariant-loop-edge
invariant-loop-edge l = record {
  same_length : length l.meant.items ≡ length l.fn.meant.items;
  marked : (k : ℕ) → k < length l.fn.meant.items → get_or l.meant.items k false ≡ (get_or l.fn.meant.items k false || list_any (leads_there l.kept l.places k) (take l.edge-index l.edges));
  within : l.all_within ≡ true → (k : ℕ) (d : ℕ × ℕ) → k < l.edge-index → LeadsWithin l.kept (length l.fn.meant.items) (get_or l.edges k d);
}
