use Rattle.std.proofs.Common.{◌≡◌, ◌||◌, ℕ, false, length, get_or, take}
use Rattle.std.specs.List.{list_any}
use Rattle.symbol_names.specs.Flags.{names_common}
use Rattle.symbol_names.proofs.flags.mark_commons.Given as goal

abbrev pub invariant-loop-common : goal.invariant-loop-common
invariant-loop-common l = record {
  same_length : length l.flags.items ≡ length l.fn.flags.items;
  marked : (number : ℕ) → get_or l.flags.items number false ≡ (get_or l.fn.flags.items number false || list_any (names_common number) (take l.common-index l.commons));
}
