use Rattle.std.proofs.Common.{◌≡◌, ℕ, ◌+◌, ◌-◌, ◌<◌, ◌≤◌, Some, false}
use Rattle.relocate.specs.Field.{ranges_meet}
use Rattle.relocate.specs.Taken.{width_at}
use Rattle.relocate.proofs.any_order.overlaps.Given as goal

abbrev pub invariant-loop-place : goal.invariant-loop-place
invariant-loop-place l =
    (place width : ℕ) → l.at - 7 ≤ place → place < l.place-counter → width_at l.taken place ≡ Some width → ranges_meet place (place + width) l.at l.end ≡ false
