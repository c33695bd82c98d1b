use Rattle.section_group.specs.Places.{AreOwnPlaces}
use Rattle.section_group.proofs.places.own_places.Given as goal

abbrev pub invariant-loop-place : goal.invariant-loop-place
invariant-loop-place l = AreOwnPlaces l.place l.places.items
