use Rattle.std.proofs.Common.{◌≡◌, true}
use Rattle.link_base.specs.Bytes.{all_below}
use Rattle.pdb_msf.specs.BlockFile.{is_block, directory_block}
use Rattle.pdb_msf.proofs.judging.directory_is_there.Given as goal

abbrev pub invariant-loop-index : goal.invariant-loop-index
invariant-loop-index l = all_below l.index (λ k. is_block l.bytes (directory_block l.bytes k)) ≡ true
