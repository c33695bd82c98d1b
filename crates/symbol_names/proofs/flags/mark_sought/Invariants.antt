use Rattle.std.proofs.Common.{◌≡◌, ◌||◌, ℕ, false, length, get_or, take}
use Rattle.std.specs.List.{list_any}
use Rattle.symbol_names.specs.Flags.{seeks}
use Rattle.symbol_names.proofs.flags.mark_sought.Given as goal

abbrev pub invariant-loop-one : goal.invariant-loop-one
invariant-loop-one l = record {
  same_length : length l.flags.items ≡ length l.fn.flags.items;
  marked : (number : ℕ) → get_or l.flags.items number false ≡ (get_or l.fn.flags.items number false || list_any (seeks number) (take l.one-index l.asked));
}
