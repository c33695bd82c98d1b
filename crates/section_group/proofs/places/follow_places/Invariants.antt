use Rattle.std.proofs.Common.{◌≡◌, ◌<◌, ◌≤◌, ◌-◌, ℕ, List, All, length, map}
use Rattle.std.specs.Map.{keys_of}
use Rattle.section_group.specs.Chains.{AreTargets, Leads}
use Rattle.section_group.specs.Places.{next_places, target_at}
use Rattle.section_group.proofs.places.follow_places.Given as goal

abbrev pub invariant-loop-steps : goal.invariant-loop-steps
invariant-loop-steps l =
    (1 ≤ l.steps) × (length l.lasts.items ≡ length l.nexts) × All (λ last. last < length l.nexts) l.lasts.items
    × ((given entries : List (List ℕ × List ℕ)) → AreTargets given entries → l.nexts ≡ next_places entries
    → Leads given l.steps (keys_of entries) (map (target_at entries) l.lasts.items))

abbrev pub decreases-loop-steps : goal.decreases-loop-steps
decreases-loop-steps l = l.far - l.steps
