use Rattle.std.proofs.Common.{◌≡◌, ◌≤◌, ◌-◌, length, None}
use Rattle.base_reloc.specs.Blocks.{walk_of, malformed_place, walked_fields, raised_all}
use Rattle.base_reloc.proofs.WalkLemmas.{rest_walk}
use Rattle.base_reloc.proofs.raising.raise_listed.Given as goal

-- to raise the fields of the blocks that are left gives what all blocks give
abbrev pub invariant-loop-at : goal.invariant-loop-at
invariant-loop-at l =
    let rest = rest_walk (length l.fn.memory) l.blocks l.at in
    (l.at ≤ length l.blocks) × (malformed_place rest ≡ None) × (raised_all l.delta l.memory (walked_fields rest) ≡ raised_all l.delta l.fn.memory (walked_fields (walk_of (length l.fn.memory) l.blocks)))

abbrev pub decreases-loop-at : goal.decreases-loop-at
decreases-loop-at l = length l.blocks - l.at
