use Rattle.std.proofs.Common.{arith, sym, subst, ap, ◌∙◌, length, take}
use Rattle.pdb_publics.specs.PublicOrder.{IsKey}
use Rattle.pdb_publics.proofs.PartLemmas.{no_counts, length_counts, key_counted, count_small}
use Rattle.pdb_publics.proofs.hash_part.bucket_counts.Goals as goal

pub loop-key-init : goal.loop-key-init
loop-key-init c = c.in_ok-counts.ensures.items_if_clones_equal (λ y h. h) ∙ no_counts

pub index_mut-requires : goal.index_mut-requires
index_mut-requires c =
    let key = subst IsKey (sym c.key-item.is) (c.requires.keys c.loop-key.key-index c.key-item.result c.loop-key-test.true) in
    let all = length_counts (take c.loop-key.key-index c.args.keys.now) in
    omega (arith, key.bucket, all, ap length c.loop-key.invariant, c.loop-key.counts.ok)

pub overflow_add-index_mut : goal.overflow_add-index_mut
overflow_add-index_mut c =
    let key = subst IsKey (sym c.key-item.is) (c.requires.keys c.loop-key.key-index c.key-item.result c.loop-key-test.true) in
    let most = count_small c.args.keys.now c.loop-key.key-index c.index_mut.result.now c.key-item.result c.loop-key.counts.items c.loop-key.invariant key.bucket c.index_mut.ensures.value in
    omega (arith, most, c.requires.few)

pub loop-key-preserved : goal.loop-key-preserved
loop-key-preserved c =
    let key = subst IsKey (sym c.key-item.is) (c.requires.keys c.loop-key.key-index c.key-item.result c.loop-key-test.true) in
    key_counted c.args.keys.now c.loop-key.key-index c.index_mut.result.now c.key-item.result c.loop-key.counts.items c.loop-key.invariant c.loop-key-test.true c.key-item.is key.bucket c.index_mut.ensures.value
