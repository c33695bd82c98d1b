use Rattle.std.proofs.Common.{◌≡◌, Bool, Vec, Global, arith, take, ap, ◌∙◌}
use Rattle.pdb_publics.specs.NameHash.{bucket}
use Rattle.pdb_file.proofs.UsedLemmas.{none_used, used_again, used_first, used_at_most}
use Rattle.pdb_file.proofs.sizes.used_buckets.Goals as goal
use Rattle.pdb_file.proofs.sizes.used_buckets.Goals.{then-not-index, else-not-index}

pub loop-row-init : goal.loop-row-init
loop-row-init c = none_used c.in_ok-used.used.items (c.in_ok-used.ensures.items_if_clones_equal (λ y h. h))

pub overflow_add-count : goal.overflow_add-count
overflow_add-count c =
    let most = used_at_most (take c.loop-row.row-index c.args.rows.now) in
    omega (arith, most, c.loop-row.invariant.number_is)

pub loop-row-preserved : goal.loop-row-preserved
loop-row-preserved c =
    let rows = c.args.rows.now in
    let i = c.loop-row.row-index in
    let row = c.row-item.result in
    let flags = c.loop-row.used.items in
    let b = c.bucket-bucket.result in
    let at : b ≡ bucket row.name = c.bucket-bucket.ensures.bucket ∙ ap bucket c.again.ensures in
    elim c.if-not-index.branch [
      | then-not-index w ↦
          used_first rows i c.loop-row.count b row c.index.result.now flags c.if-not-index.used.items c.if-not-index.count c.loop-row-test.true c.row-item.is at c.bucket-bucket.ensures.below c.index.ensures w.if-not-index.true
          (ap (λ (v : Vec Bool Global). v.items) w.used-is) w.count-is c.loop-row.invariant
      | else-not-index w ↦
          used_again rows i c.loop-row.count b row c.index.result.now flags c.if-not-index.used.items c.if-not-index.count c.loop-row-test.true c.row-item.is at c.bucket-bucket.ensures.below c.index.ensures w.if-not-index.false
          (ap (λ (v : Vec Bool Global). v.items) w.used-is) w.count-is c.loop-row.invariant
    ]

pub returns-clause-most : goal.returns-clause-most
returns-clause-most c =
    let most = used_at_most (take c.loop-row.row-index c.args.rows.now) in
    omega (arith, most, c.loop-row.invariant.number_is)
