use Rattle.std.proofs.Common.{◌≡◌, ◌+◌, true}
use Rattle.link_base.specs.Bytes.{all_below}
use Rattle.pdb_msf.specs.BlockFile.{is_block, entry, stream_count}
use Rattle.pdb_msf.proofs.judging.lists_are_there.Given as goal

abbrev pub invariant-loop-index : goal.invariant-loop-index
invariant-loop-index l = all_below l.index (λ k. is_block l.bytes (entry l.bytes (1 + stream_count l.bytes + k))) ≡ true
