use Rattle.std.proofs.Common.{◌≡◌, ◌≤◌, ◌-◌, length}
use Rattle.base_reloc.specs.Blocks.{walk_of, malformed_place}
use Rattle.base_reloc.proofs.WalkLemmas.{rest_walk}
use Rattle.base_reloc.proofs.judging.first_malformed.Given as goal

-- the blocks that are left are malformed where all are
abbrev pub invariant-loop-at : goal.invariant-loop-at
invariant-loop-at l =
    (l.at ≤ length l.blocks) × (malformed_place (rest_walk l.memory_len l.blocks l.at) ≡ malformed_place (walk_of l.memory_len l.blocks))

abbrev pub decreases-loop-at : goal.decreases-loop-at
decreases-loop-at l = length l.blocks - l.at
