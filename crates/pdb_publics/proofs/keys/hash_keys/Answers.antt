use Rattle.std.proofs.Common.{◌∙◌, ap, refl}
use Rattle.pdb_publics.specs.NameHash.{bucket}
use Rattle.pdb_publics.specs.PublicOrder.{hash_keys}
use Rattle.pdb_publics.proofs.KeyLemmas.{hash_key_made}
use Rattle.pdb_publics.proofs.keys.hash_keys.Goals as goal

pub loop-row-init : goal.loop-row-init
unfolding hash_keys
loop-row-init c = record { place_is = refl; left = c.requires.lowered; made = c.in_ok-keys.ensures.items }

pub loop-row-preserved : goal.loop-row-preserved
loop-row-preserved c =
    hash_key_made c.args.rows.now c.loop-row.row-index c.loop-row.record c.record_size.result c.len-len.result c.bucket.result c.row-item.result c.loop-row.rest.now c.of.result c.split_at.result.1.now c.loop-row.keys.items c.push.new.self.items
    c.loop-row-test.true c.row-item.is c.loop-row.invariant c.len-len.ensures (c.of.ensures ∙ c.split_at.ensures.front) c.split_at.ensures.back (c.bucket.ensures.bucket ∙ ap bucket c.again.ensures) c.record_size.ensures c.in_ok-push.ensures.items
