use Rattle.std.proofs.Common.{◌≡◌, None, Some, false, sym, ◌∙◌, ap}
use Rattle.relocate.specs.declared.fix.Fix.{Fix}
use Rattle.relocate.specs.Field.{fix_at}
use Rattle.relocate.specs.FieldFaults.{fault_of, fault_at}
use Rattle.relocate.proofs.JudgeLemmas.{unpacked_at}
use Rattle.relocate.proofs.ApartLemmas.{none_yet, none_more, refused_here, none_at_all}
use Rattle.relocate.proofs.any_order.judge_apart.Goals as goal

pub loop-packed-init : goal.loop-packed-init
loop-packed-init c = none_yet _ _ _ _

pub loop-packed-preserved : goal.loop-packed-preserved
loop-packed-preserved c =
    let fixes = c.args.fixes.now in
    let k = c.loop-packed.packed-index in
    let lt = c.loop-packed-test.true in
    let is : c.unpacked.result ≡ fix_at fixes k = unpacked_at fixes k c.unpacked.result c.packed-item.result lt c.unpacked.ensures c.packed-item.is in
    let here : fault_at c.args.body_len c.args.large c.args.pdata fixes k ≡ None =
    ap (fault_of c.args.body_len c.args.large c.args.pdata (fix_at fixes k)) (c.requires k lt) ∙ ap (λ (fix : Fix). fault_of c.args.body_len c.args.large c.args.pdata fix false) (sym is) ∙ sym c.in_default.ensures in
    none_more _ _ _ _ _ c.loop-packed.invariant here

pub returns-in-Some-clause-refused : goal.returns-in-Some-clause-refused
returns-in-Some-clause-refused c =
    let fixes = c.args.fixes.now in
    let k = c.loop-packed.packed-index in
    let lt = c.loop-packed-test.true in
    let is : c.unpacked.result ≡ fix_at fixes k = unpacked_at fixes k c.unpacked.result c.packed-item.result lt c.unpacked.ensures c.packed-item.is in
    let here : fault_at c.args.body_len c.args.large c.args.pdata fixes k ≡ Some c.in-Some.error =
    ap (fault_of c.args.body_len c.args.large c.args.pdata (fix_at fixes k)) (c.requires k lt) ∙ ap (λ (fix : Fix). fault_of c.args.body_len c.args.large c.args.pdata fix false) (sym is) ∙ sym c.in-Some.ensures in
    refused_here _ _ _ _ _ _ lt c.loop-packed.invariant here

pub returns-clause-accepted : goal.returns-clause-accepted
returns-clause-accepted c = none_at_all _ _ _ _ _ c.loop-packed-test.false c.loop-packed.auto.packed-index-end c.loop-packed.invariant
