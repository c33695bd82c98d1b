use Rattle.std.proofs.Common.{◌≡◌, ◌≢◌, ◌<◌, ◌≤◌, false, None, Some, refl, sym, ap, ◌∙◌, arith}
use Rattle.relocate.specs.declared.fix.Fix.{Fix}
use Rattle.relocate.specs.Field.{fix_at}
use Rattle.relocate.specs.FieldFaults.{fault_of}
use Rattle.relocate.proofs.JudgeLemmas.{unpacked_at, ascend_starts, ascend_absolute, ascend_field, ascend_refused, ascend_ends, all_ascend}
use Rattle.relocate.proofs.PatchableLemmas.{patchable_ascending}
use Rattle.relocate.proofs.ascending.judge_ascending.Goals as goal

pub loop-packed-init : goal.loop-packed-init
loop-packed-init c = ascend_starts _ _ _ _

pub loop-packed-preserved-then-fix-eq-REL_AMD64_ABSOLUTE : goal.loop-packed-preserved-then-fix-eq-REL_AMD64_ABSOLUTE
loop-packed-preserved-then-fix-eq-REL_AMD64_ABSOLUTE c =
    let k = c.loop-packed.packed-index in
    let lt = c.loop-packed-test.true in
    let is : c.unpacked-fix.result ≡ fix_at c.args.fixes.now k = unpacked_at c.args.fixes.now k c.unpacked-fix.result c.packed-item.result lt c.unpacked-fix.ensures c.packed-item.is in
    let kind : (fix_at c.args.fixes.now k).kind ≡ 0 = sym (ap (λ (fix : Fix). fix.kind) is) ∙ c.if-fix-eq-REL_AMD64_ABSOLUTE.true in
    ascend_absolute _ _ _ _ _ _ _ lt kind c.loop-packed.invariant

pub loop-packed-preserved : goal.loop-packed-preserved
loop-packed-preserved c =
    let k = c.loop-packed.packed-index in
    let lt = c.loop-packed-test.true in
    let is : c.unpacked-fix.result ≡ fix_at c.args.fixes.now k = unpacked_at c.args.fixes.now k c.unpacked-fix.result c.packed-item.result lt c.unpacked-fix.ensures c.packed-item.is in
    let kind : (fix_at c.args.fixes.now k).kind ≢ 0 = λ none. c.if-fix-eq-REL_AMD64_ABSOLUTE.false (ap (λ (fix : Fix). fix.kind) is ∙ none) in
    let above : c.loop-packed.end ≤ (fix_at c.args.fixes.now k).at = omega (arith, ap (λ (fix : Fix). fix.at) is, c.from.ensures, c.if-from-end.false) in
    let passes : fault_of c.args.body_len c.args.large c.args.pdata (fix_at c.args.fixes.now k) false ≡ None =
    ap (λ (fix : Fix). fault_of c.args.body_len c.args.large c.args.pdata fix false) (sym is) ∙ sym c.in_default.ensures in
    rw (c.field_end-end.ensures.value, is)
    (ascend_field _ _ _ _ _ _ _ lt kind passes above c.loop-packed.invariant)

pub returns-in-Some-clause-refused : goal.returns-in-Some-clause-refused
returns-in-Some-clause-refused c =
    let k = c.loop-packed.packed-index in
    let lt = c.loop-packed-test.true in
    let is : c.unpacked-fix.result ≡ fix_at c.args.fixes.now k = unpacked_at c.args.fixes.now k c.unpacked-fix.result c.packed-item.result lt c.unpacked-fix.ensures c.packed-item.is in
    let above : c.loop-packed.end ≤ (fix_at c.args.fixes.now k).at = omega (arith, ap (λ (fix : Fix). fix.at) is, c.from.ensures, c.if-from-end.false) in
    let fails : fault_of c.args.body_len c.args.large c.args.pdata (fix_at c.args.fixes.now k) false ≡ Some c.in-Some.error =
    ap (λ (fix : Fix). fault_of c.args.body_len c.args.large c.args.pdata fix false) (sym is) ∙ sym c.in-Some.ensures in
    ascend_refused _ _ _ _ _ _ _ _ lt fails above c.loop-packed.invariant

pub returns-clause-whole : goal.returns-clause-whole
returns-clause-whole c =
    (all_ascend _ _ _ _ _ _ _ c.loop-packed-test.false c.loop-packed.auto.packed-index-end c.loop-packed.invariant).whole

pub returns-clause-patchable : goal.returns-clause-patchable
returns-clause-patchable c =
    let all = all_ascend _ _ _ _ _ _ _ c.loop-packed-test.false c.loop-packed.auto.packed-index-end c.loop-packed.invariant in
    patchable_ascending _ _ _ _ _ all.none refl all.apart

pub returns-then-from-end-clause-descend : goal.returns-then-from-end-clause-descend
returns-then-from-end-clause-descend c =
    let k = c.loop-packed.packed-index in
    let lt = c.loop-packed-test.true in
    let is : c.unpacked-fix.result ≡ fix_at c.args.fixes.now k = unpacked_at c.args.fixes.now k c.unpacked-fix.result c.packed-item.result lt c.unpacked-fix.ensures c.packed-item.is in
    let below : (fix_at c.args.fixes.now k).at < c.loop-packed.end = omega (arith, ap (λ (fix : Fix). fix.at) is, c.from.ensures, c.if-from-end.true) in
    ascend_ends _ _ _ _ _ _ _ lt below c.loop-packed.invariant
