use Rattle.std.proofs.Common.{◌≡◌, ◌<◌, All, length, map, take}
use Rattle.section_group.specs.Places.{later_place}
use Rattle.section_group.proofs.places.later_places.Given as goal

abbrev pub invariant-loop-last : goal.invariant-loop-last
invariant-loop-last l =
    (l.later.items ≡ map (later_place l.nexts l.lasts) (take l.last-index l.lasts)) × All (λ last. last < length l.nexts) l.later.items
