use Rattle.std.proofs.Common.{◌≡◌, ◌++◌, map}
use Rattle.std.specs.List.{range_with_len}
use Rattle.pdb_msf.specs.WrittenFile.{cut_block, laid}
use Rattle.pdb_msf.proofs.blocks.push_blocks.Given as goal

abbrev pub invariant-loop-index : goal.invariant-loop-index
invariant-loop-index l =
    l.out.items ≡ l.initial.out.items ++ laid l.total l.n (map (cut_block l.bytes) (range_with_len 0 l.index))
