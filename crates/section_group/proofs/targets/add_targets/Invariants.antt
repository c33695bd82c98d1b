use Rattle.std.proofs.Common.{◌≡◌, ℕ, List, take}
use Rattle.indexmap.specs.IndexMap.{get}
use Rattle.section_group.specs.Merging.{same_name}
use Rattle.section_group.specs.Chains.{target_among}
use Rattle.std.specs.Option.{option_or}
use Rattle.section_group.proofs.targets.add_targets.Given as goal

abbrev pub invariant-loop-left : goal.invariant-loop-left
invariant-loop-left l =
    (q : List ℕ) → get same_name l.targets q ≡ option_or (get same_name l.initial.targets q) (target_among (take l.left-index l.merges) q)
