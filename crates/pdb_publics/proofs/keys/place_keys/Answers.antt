use Rattle.std.proofs.Common.{refl}
use Rattle.pdb_publics.specs.PublicOrder.{place_keys}
use Rattle.pdb_publics.proofs.KeyLemmas.{place_key_made}
use Rattle.pdb_publics.proofs.keys.place_keys.Goals as goal

pub loop-row-init : goal.loop-row-init
unfolding place_keys
loop-row-init c = record { place_is = refl; made = c.in_ok-keys.ensures.items }

pub loop-row-preserved : goal.loop-row-preserved
loop-row-preserved c =
    place_key_made c.args.rows.now c.loop-row.row-index c.loop-row.record c.record_size.result c.len.result c.row-item.result c.loop-row.keys.items c.push.new.self.items
    c.loop-row-test.true c.row-item.is c.loop-row.invariant c.len.ensures c.record_size.ensures c.in_ok-push.ensures.items
