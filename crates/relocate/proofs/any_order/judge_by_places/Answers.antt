use Rattle.std.proofs.Common.{◌≡◌, ◌≢◌, None, Some, sym, ◌∙◌, ap}
use Rattle.relocate.specs.declared.fix.Fix.{Fix}
use Rattle.relocate.specs.Field.{field_width, fix_at}
use Rattle.relocate.specs.FieldFaults.{overlaps_earlier, fault_of, fault_at}
use Rattle.relocate.proofs.JudgeLemmas.{unpacked_at, passes, has_width}
use Rattle.relocate.proofs.TakenLemmas.{narrow, overlap_is, holds_none, holds_absolute, holds_step}
use Rattle.relocate.proofs.ApartLemmas.{none_yet, none_absolute, none_more, refused_here, none_at_all}
use Rattle.relocate.proofs.any_order.judge_by_places.Goals as goal

pub loop-packed-init : goal.loop-packed-init
loop-packed-init c = (none_yet _ _ _ _, holds_none _ _ c.new-taken.ensures.empty)

pub loop-packed-preserved-then-fix-eq-REL_AMD64_ABSOLUTE :
    goal.loop-packed-preserved-then-fix-eq-REL_AMD64_ABSOLUTE
loop-packed-preserved-then-fix-eq-REL_AMD64_ABSOLUTE c =
    let fixes = c.args.fixes.now in
    let k = c.loop-packed.packed-index in
    let lt = c.loop-packed-test.true in
    let is : c.unpacked-fix.result ≡ fix_at fixes k = unpacked_at fixes k c.unpacked-fix.result c.packed-item.result lt c.unpacked-fix.ensures c.packed-item.is in
    let absolute : (fix_at fixes k).kind ≡ 0 = sym (ap (λ (fix : Fix). fix.kind) is) ∙ c.if-fix-eq-REL_AMD64_ABSOLUTE.true in
    (none_absolute _ _ _ _ _ absolute c.loop-packed.invariant.0, holds_absolute _ _ _ c.loop-packed.invariant.1 absolute)

pub overlaps-requires : goal.overlaps-requires
overlaps-requires c = record { narrow = narrow _ _ _ c.loop-packed.invariant.1 }

pub returns-in-Some-clause-refused : goal.returns-in-Some-clause-refused
returns-in-Some-clause-refused c =
    let fixes = c.args.fixes.now in
    let k = c.loop-packed.packed-index in
    let lt = c.loop-packed-test.true in
    let is : c.unpacked-fix.result ≡ fix_at fixes k = unpacked_at fixes k c.unpacked-fix.result c.packed-item.result lt c.unpacked-fix.ensures c.packed-item.is in
    let same : c.overlaps.result ≡ overlaps_earlier fixes k = overlap_is fixes k c.loop-packed.taken c.overlaps.result c.loop-packed.invariant.1 (rw (sym is) c.overlaps.ensures) in
    let here : fault_at c.args.body_len c.args.large c.args.pdata fixes k ≡ Some c.in-Some.error =
    ap (fault_of c.args.body_len c.args.large c.args.pdata (fix_at fixes k)) (sym same) ∙ ap (λ (fix : Fix). fault_of c.args.body_len c.args.large c.args.pdata fix c.overlaps.result) (sym is) ∙ sym c.in-Some.ensures in
    refused_here _ _ _ _ _ _ lt c.loop-packed.invariant.0 here

pub loop-packed-preserved : goal.loop-packed-preserved
loop-packed-preserved c =
    let fixes = c.args.fixes.now in
    let k = c.loop-packed.packed-index in
    let lt = c.loop-packed-test.true in
    let is : c.unpacked-fix.result ≡ fix_at fixes k = unpacked_at fixes k c.unpacked-fix.result c.packed-item.result lt c.unpacked-fix.ensures c.packed-item.is in
    let same : c.overlaps.result ≡ overlaps_earlier fixes k = overlap_is fixes k c.loop-packed.taken c.overlaps.result c.loop-packed.invariant.1 (rw (sym is) c.overlaps.ensures) in
    let here : fault_at c.args.body_len c.args.large c.args.pdata fixes k ≡ None =
    ap (fault_of c.args.body_len c.args.large c.args.pdata (fix_at fixes k)) (sym same) ∙ ap (λ (fix : Fix). fault_of c.args.body_len c.args.large c.args.pdata fix c.overlaps.result) (sym is) ∙ sym c.in_default.ensures in
    let some : (fix_at fixes k).kind ≢ 0 = λ none. c.if-fix-eq-REL_AMD64_ABSOLUTE.false (ap (λ (fix : Fix). fix.kind) is ∙ none) in
    let passed = passes c.args.body_len c.args.large c.args.pdata (fix_at fixes k) (overlaps_earlier fixes k) here some in
    let width = has_width c.args.body_len (fix_at fixes k) passed.place some in
    (none_more _ _ _ _ _ c.loop-packed.invariant.0 here, holds_step fixes k c.loop-packed.taken _ _ _ c.loop-packed.invariant.1 passed.apart width (c.from.ensures ∙ ap (λ (fix : Fix). fix.at) is) (c.from-in-loop-packed.ensures ∙ c.field_width.ensures.value ∙ ap (λ (fix : Fix). field_width fix.kind) is) c.in_ok-insert.ensures.updates)

pub returns-clause-accepted : goal.returns-clause-accepted
returns-clause-accepted c = none_at_all _ _ _ _ _ c.loop-packed-test.false c.loop-packed.auto.packed-index-end c.loop-packed.invariant.0
