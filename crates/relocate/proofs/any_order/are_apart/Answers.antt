use Rattle.std.proofs.Common.{◌≡◌, ◌<◌, ◌≤◌, ap, arith}
use Rattle.relocate.specs.declared.fix.Fix.{Fix}
use Rattle.relocate.specs.Field.{fix_at}
use Rattle.relocate.proofs.JudgeLemmas.{unpacked_at}
use Rattle.relocate.proofs.ApartLemmas.{apart_yet, apart_more, all_apart, not_apart}
use Rattle.relocate.proofs.any_order.are_apart.Goals as goal

pub loop-packed-init : goal.loop-packed-init
loop-packed-init c = apart_yet _

pub loop-packed-preserved : goal.loop-packed-preserved
loop-packed-preserved c =
    let k = c.loop-packed.packed-index in
    let lt = c.loop-packed-test.true in
    let is : c.unpacked-fix.result ≡ fix_at c.args.fields.now k = unpacked_at c.args.fields.now k c.unpacked-fix.result c.packed-item.result lt c.unpacked-fix.ensures c.packed-item.is in
    let above : c.loop-packed.end ≤ (fix_at c.args.fields.now k).at = omega (arith, ap (λ (fix : Fix). fix.at) is, c.from.ensures, c.if-from-end.false) in
    rw (c.field_end-end.ensures.value, is) (apart_more _ _ _ lt above c.loop-packed.invariant)

pub returns-then-from-end : goal.returns-then-from-end
returns-then-from-end c =
    let k = c.loop-packed.packed-index in
    let lt = c.loop-packed-test.true in
    let is : c.unpacked-fix.result ≡ fix_at c.args.fields.now k = unpacked_at c.args.fields.now k c.unpacked-fix.result c.packed-item.result lt c.unpacked-fix.ensures c.packed-item.is in
    let below : (fix_at c.args.fields.now k).at < c.loop-packed.end = omega (arith, ap (λ (fix : Fix). fix.at) is, c.from.ensures, c.if-from-end.true) in
    not_apart _ _ _ lt below c.loop-packed.invariant

pub returns : goal.returns
returns c = all_apart _ _ _ c.loop-packed-test.false c.loop-packed.auto.packed-index-end c.loop-packed.invariant
