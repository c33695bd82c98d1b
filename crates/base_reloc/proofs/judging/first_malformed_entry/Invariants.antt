use Rattle.std.proofs.Common.{◌≡◌, ◌+◌, ◌-◌, ◌*◌}
use Rattle.base_reloc.specs.Blocks.{entries_at, block_entries, malformed_place}
use Rattle.base_reloc.proofs.judging.first_malformed_entry.Given as goal

-- the entries that are left are malformed where the block is
abbrev pub invariant-loop-index : goal.invariant-loop-index
invariant-loop-index l =
    malformed_place (entries_at l.memory_len l.page l.blocks (l.at + 8 + 2 * l.index) (l.count - l.index)) ≡ malformed_place (block_entries l.memory_len l.blocks l.at)
