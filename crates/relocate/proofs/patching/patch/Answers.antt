use Rattle.std.proofs.Common.{length, subst, ◌<◌, ◌≤◌}
use Rattle.relocate.specs.Field.{no_fix}
use Rattle.relocate.proofs.JudgeLemmas.{unpacked_at}
use Rattle.relocate.proofs.PatchLemmas.{PatchedTo, step, all_in_range, all_patched}
use Rattle.relocate.proofs.PatchedLemmas.{all_written}
use Rattle.relocate.proofs.patching.patch.Goals as goal

pub patch_field-outside-requires-clause-patchable : goal.patch_field-outside-requires-clause-patchable
patch_field-outside-requires-clause-patchable c =
    let lt : c.loop-packed.packed-index < length c.args.fixups.now = rw c.fixes-packed-items.ensures at c.loop-packed-test.true in
    let is = unpacked_at c.fixes-packed-items.result.now c.loop-packed.packed-index c.unpacked-fix.result c.packed-item.result c.loop-packed-test.true c.unpacked-fix.ensures c.packed-item.is in
    rw (is, c.fixes-packed-items.ensures, c.loop-packed.invariant.len) (c.requires.patchable.each c.loop-packed.packed-index no_fix lt)

pub loop-packed-preserved : goal.loop-packed-preserved
loop-packed-preserved c =
    let lt : c.loop-packed.packed-index < length c.args.fixups.now = rw c.fixes-packed-items.ensures at c.loop-packed-test.true in
    let is = unpacked_at c.fixes-packed-items.result.now c.loop-packed.packed-index c.unpacked-fix.result c.packed-item.result c.loop-packed-test.true c.unpacked-fix.ensures c.packed-item.is in
    rw (c.patch_field-outside.ensures.patched, c.least_range-least.ensures, c.patch_field-outside.ensures.outside, is, c.fixes-packed-items.ensures)
    (step _ _ _ _ _ _ _ _ _ lt c.requires.patchable c.loop-packed.invariant)

pub returns-in-None-clause-patched : goal.returns-in-None-clause-patched
returns-in-None-clause-patched c =
    let all : length c.args.fixups.now ≤ c.loop-packed.packed-index = rw c.fixes-packed-items.ensures at c.loop-packed-test.false in
    let upto : c.loop-packed.packed-index ≤ length c.args.fixups.now = rw c.fixes-packed-items.ensures at c.loop-packed.auto.packed-index-end in
    all_patched _ _ _ _ _ _ _ _ all upto (subst (PatchedTo c.args.base c.args.rva c.args.layout.now c.args.owner.now c.args.fixups.now c.loop-packed.packed-index c.args.part.now c.loop-packed.part) c.in-None.is c.loop-packed.invariant)

pub returns-in-None-clause-written : goal.returns-in-None-clause-written
returns-in-None-clause-written c =
    let all : length c.args.fixups.now ≤ c.loop-packed.packed-index = rw c.fixes-packed-items.ensures at c.loop-packed-test.false in
    let upto : c.loop-packed.packed-index ≤ length c.args.fixups.now = rw c.fixes-packed-items.ensures at c.loop-packed.auto.packed-index-end in
    all_written _ _ _ _ _ _ _ _ all upto c.requires.patchable (subst (PatchedTo c.args.base c.args.rva c.args.layout.now c.args.owner.now c.args.fixups.now c.loop-packed.packed-index c.args.part.now c.loop-packed.part) c.in-None.is c.loop-packed.invariant)

pub returns-in-None-clause-in_range : goal.returns-in-None-clause-in_range
returns-in-None-clause-in_range c =
    let all : length c.args.fixups.now ≤ c.loop-packed.packed-index = rw c.fixes-packed-items.ensures at c.loop-packed-test.false in
    all_in_range _ _ _ _ _ _ _ c.loop-packed.part all (subst (PatchedTo c.args.base c.args.rva c.args.layout.now c.args.owner.now c.args.fixups.now c.loop-packed.packed-index c.args.part.now c.loop-packed.part) c.in-None.is c.loop-packed.invariant)
