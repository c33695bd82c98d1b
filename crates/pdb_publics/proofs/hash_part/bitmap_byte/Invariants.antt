use Rattle.std.proofs.Common.{◌≡◌, ◌<◌, ◌+◌, ◌*◌, ◌^◌}
use Rattle.pdb_publics.specs.PublicStreams.{bits, has_some}
use Rattle.pdb_publics.proofs.hash_part.bitmap_byte.Given as goal

abbrev pub invariant-loop-bit : goal.invariant-loop-bit
invariant-loop-bit l = record {
  made : l.byte ≡ bits l.bit (λ bit. has_some l.counts (8 * l.place + bit));
  small : l.byte < 2 ^ l.bit;
}
