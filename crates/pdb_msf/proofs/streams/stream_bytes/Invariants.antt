use Rattle.std.proofs.Common.{◌≡◌}
use Rattle.pdb_msf.specs.Streams.{joined_blocks}
use Rattle.pdb_msf.proofs.streams.stream_bytes.Given as goal

abbrev pub invariant-loop-index : goal.invariant-loop-index
invariant-loop-index l = l.out.items ≡ joined_blocks l.bytes l.stream l.index
