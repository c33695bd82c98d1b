use Rattle.std.proofs.Common.{arith, refl}
use Rattle.pdb_publics.specs.Lookup.{passing, is_set}
use Rattle.pdb_publics.proofs.RangeLemmas.{bit_counted}
use Rattle.pdb_publics.proofs.range.set_in_byte.Goals as goal

pub loop-bit-init : goal.loop-bit-init
unfolding passing
loop-bit-init c = record { counted = refl; most = omega arith }

pub loop-bit-preserved : goal.loop-bit-preserved
loop-bit-preserved c =
    let made = bit_counted c.loop-bit.bit c.loop-bit.count c.from-count.result c.is_set.result (is_set c.args.byte) c.loop-bit.invariant.counted c.is_set.ensures c.from-count.ensures in
    record { counted = made.0; most = omega (arith, made.1, c.loop-bit.invariant.most) }
