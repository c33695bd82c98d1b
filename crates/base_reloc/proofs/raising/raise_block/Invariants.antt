use Rattle.std.proofs.Common.{◌≡◌, ◌+◌, ◌-◌, ◌*◌, length, None}
use Rattle.base_reloc.specs.Blocks.{entries_at, block_entries, malformed_place, walked_fields, raised_all}
use Rattle.base_reloc.proofs.raising.raise_block.Given as goal

-- to raise the fields that are left gives what the whole block gives
abbrev pub invariant-loop-index : goal.invariant-loop-index
invariant-loop-index l =
    let rest = entries_at (length l.fn.memory) l.page l.blocks (l.at + 8 + 2 * l.index) (l.count - l.index) in
    (malformed_place rest ≡ None) × (raised_all l.delta l.memory (walked_fields rest) ≡ raised_all l.delta l.fn.memory (walked_fields (block_entries (length l.fn.memory) l.blocks l.at)))
