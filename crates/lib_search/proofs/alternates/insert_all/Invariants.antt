use Rattle.std.proofs.Common.{◌≡◌, ℕ, ◌||◌, take}
use Rattle.lib_search.specs.AlternateParts.{is_waiting, is_among}
use Rattle.lib_search.proofs.alternates.insert_all.Given as goal

abbrev pub invariant-loop-number : goal.invariant-loop-number
invariant-loop-number l =
    (number : ℕ) → is_waiting l.numbers number ≡ (is_waiting l.fn.numbers number || is_among (take l.number-index l.more) number)
