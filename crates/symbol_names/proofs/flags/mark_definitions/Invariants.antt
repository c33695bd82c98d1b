use Rattle.std.proofs.Common.{◌≡◌, ◌||◌, ℕ, false, length, get_or, take}
use Rattle.std.specs.List.{list_any}
use Rattle.symbol_names.specs.Flags.{names_definition}
use Rattle.symbol_names.proofs.flags.mark_definitions.Given as goal

abbrev pub invariant-loop-definition : goal.invariant-loop-definition
invariant-loop-definition l = record {
  same_length : length l.flags.items ≡ length l.fn.flags.items;
  marked : (number : ℕ) → get_or l.flags.items number false ≡ (get_or l.fn.flags.items number false || list_any (names_definition number) (take l.definition-index l.definitions));
}
