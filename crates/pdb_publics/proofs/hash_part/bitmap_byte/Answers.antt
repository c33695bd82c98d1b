use Rattle.std.proofs.Common.{◌+◌, ◌*◌, ℕ, sym, arith}
use Rattle.pdb_publics.specs.PublicStreams.{has_some}
use Rattle.pdb_publics.proofs.PartLemmas.{no_bits, bit_made, bit_small}
use Rattle.pdb_publics.proofs.hash_part.bitmap_byte.Goals as goal

pub loop-bit-init : goal.loop-bit-init
loop-bit-init c = record { made = sym (no_bits (λ (bit : ℕ). has_some c.args.counts.now (8 * c.args.place + bit))); small = omega arith }

pub loop-bit-preserved : goal.loop-bit-preserved
loop-bit-preserved c = record {
  made = bit_made c.loop-bit.bit c.loop-bit.byte c.bit_of-byte.result (λ (bit : ℕ). has_some c.args.counts.now (8 * c.args.place + bit)) c.loop-bit.invariant.made c.bit_of-byte.ensures.bit;
  small = bit_small c.loop-bit.bit c.loop-bit.byte c.bit_of-byte.result c.loop-bit.invariant.small c.bit_of-byte.ensures.most;
}
