use Rattle.std.proofs.Common.{◌≡◌, length}
use Rattle.std.specs.List.{range_with_len}
use Rattle.link_folding.specs.Steps.{ArePlacesBelow}
use Rattle.link_folding.proofs.folded.places_by.Given as goal

abbrev pub invariant-loop-k : goal.invariant-loop-k
invariant-loop-k l = l.places.items ≡ range_with_len 0 l.k

abbrev pub invariant-loop-number : goal.invariant-loop-number
invariant-loop-number l = record {
  for_each : length l.places.items ≡ l.count;
  below : ArePlacesBelow l.candidates l.answers l.number l.places.items;
}
