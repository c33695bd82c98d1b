use Rattle.std.proofs.Common.{◌≡◌, ◌≤◌, ◌*◌}
use Rattle.pdb_publics.specs.Lookup.{has_bucket, passing, stream_bytes_of}
use Rattle.pdb_publics.proofs.range.set_below.Given as goal

abbrev pub invariant-loop-index : goal.invariant-loop-index
invariant-loop-index l = record {
  counted : l.count ≡ passing (8 * l.index) (has_bucket (stream_bytes_of l.msf 6));
  most : l.count ≤ 8 * l.index;
}
