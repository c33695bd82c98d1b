use Rattle.std.proofs.Common.{◌≡◌, ◌+◌, ◌++◌, drop, length, sum}
use Rattle.std.specs.List.{flat_map}
use Rattle.pdb_msf.specs.WrittenFile.{in_blocks, laid, parted, stream_total}
use Rattle.pdb_msf.proofs.writing.push_streams.Given as goal

-- what is written and the blocks of the streams that are left make up the whole
abbrev pub invariant-loop-len : goal.invariant-loop-len
invariant-loop-len l = record {
  whole : sum (drop l.len-index l.lengths) ≡ length l.rest;
  end : l.n + stream_total (drop l.len-index l.lengths) ≡ l.first + stream_total l.lengths;
  laid_out : l.out.items ++ laid l.total l.n (flat_map in_blocks (parted l.rest (drop l.len-index l.lengths))) ≡ l.initial.out.items ++ laid l.total l.first (flat_map in_blocks (parted l.joined l.lengths));
}
