use Rattle.std.proofs.Common.{◌≡◌, ◌++◌, map}
use Rattle.section_group.specs.Places.{place_among, next_places}
use Rattle.section_group.proofs.places.next_places.Given as goal

-- the places so far, and those of the targets that are left
abbrev pub invariant-loop-target : goal.invariant-loop-target
invariant-loop-target l =
    l.nexts.items ++ map (place_among l.fn.targets.entries) l.target-iterator ≡ next_places l.fn.targets.entries
