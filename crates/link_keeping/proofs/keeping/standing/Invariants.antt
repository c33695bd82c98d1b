use Rattle.std.proofs.Common.{◌≡◌, map}
use Rattle.std.specs.List.{range_with_len}
use Rattle.link_folding.specs.Places.{stands_alone}
use Rattle.link_keeping.proofs.keeping.standing.Given as goal

abbrev pub invariant-loop-k : goal.invariant-loop-k
invariant-loop-k l = l.kept.items ≡ map (stands_alone l.reached l.places) (range_with_len 0 l.k)
