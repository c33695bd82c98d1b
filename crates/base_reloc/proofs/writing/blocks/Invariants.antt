use Rattle.std.proofs.Common.{◌≡◌, ◌++◌, length}
use Rattle.base_reloc.specs.PageBlocks.{IsAscending, blocks_of}
use Rattle.base_reloc.proofs.writing.blocks.Given as goal

-- what is written and the blocks of the fields that are left make up the whole
abbrev pub invariant-loop-rest : goal.invariant-loop-rest
invariant-loop-rest l = IsAscending l.rest × (l.table.items ++ blocks_of l.rest ≡ blocks_of l.fields)

abbrev pub decreases-loop-rest : goal.decreases-loop-rest
decreases-loop-rest l = length l.rest
