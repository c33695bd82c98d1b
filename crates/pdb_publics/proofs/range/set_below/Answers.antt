use Rattle.std.proofs.Common.{arith, refl, ap, ◌∙◌, ℕ, ◌+◌, ◌*◌, ◌/◌, ◌%◌}
use Rattle.pdb_publics.specs.Lookup.{stream_bytes_of, has_bucket, passing}
use Rattle.pdb_publics.proofs.RangeLemmas.{byte_counted}
use Rattle.pdb_publics.proofs.range.set_below.Goals as goal

pub loop-index-init : goal.loop-index-init
unfolding passing
loop-index-init c = record { counted = refl; most = omega arith }

pub loop-index-preserved : goal.loop-index-preserved
loop-index-preserved c = record {
  counted = byte_counted (stream_bytes_of c.args.msf.now 6) c.bitmap_at-start.result c.loop-index.index 8 (8 * (c.loop-index.index + 1)) c.args.bits c.loop-index.count c.byte_in.result c.set_in_byte-count.result c.bitmap_at-start.ensures.at c.loop-index.invariant.counted c.byte_in.ensures (omega arith) c.set_in_byte-count.ensures.count (omega arith);
  most = omega (arith, c.loop-index.invariant.most, c.set_in_byte-count.ensures.most);
}

pub returns-clause-count : goal.returns-clause-count
returns-clause-count c =
    byte_counted (stream_bytes_of c.args.msf.now 6) c.bitmap_at-start.result (c.args.bits / 8) (c.args.bits % 8) c.args.bits c.args.bits c.loop-index.count c.byte_in-2.result c.set_in_byte.result c.bitmap_at-start.ensures.at
    (c.loop-index.invariant.counted ∙ ap (λ (k : ℕ). passing (8 * k) (has_bucket (stream_bytes_of c.args.msf.now 6))) (omega (arith, c.loop-index-test.false, c.loop-index.auto.index-end)))
    c.byte_in-2.ensures (omega arith) c.set_in_byte.ensures.count (omega arith)
