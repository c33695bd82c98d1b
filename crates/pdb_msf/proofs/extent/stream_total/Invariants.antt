use Rattle.std.proofs.Common.{◌≡◌, ◌*◌, ◌≤◌, take}
use Rattle.pdb_msf.specs.WrittenFile.{stream_total}
use Rattle.pdb_msf.proofs.extent.stream_total.Given as goal

abbrev pub invariant-loop-len : goal.invariant-loop-len
invariant-loop-len l = (l.blocks ≡ stream_total (take l.len-index l.lengths)) × (l.blocks ≤ 1048576 * l.len-index)
