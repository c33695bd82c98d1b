use Rattle.std.proofs.Common.{◌≡◌, ◌*◌, ◌^◌, ◌≤◌, take}
use Rattle.pdb_msf.specs.WrittenFile.{stream_total}
use Rattle.pdb_file.proofs.sizes.stream_total.Given as goal

abbrev pub invariant-loop-len : goal.invariant-loop-len
invariant-loop-len l = record {
  sum : l.blocks ≡ stream_total (take l.len-index l.lengths);
  most : l.blocks ≤ 2 ^ 89 * l.len-index;
}
