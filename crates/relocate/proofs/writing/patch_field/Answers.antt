use Rattle.std.proofs.Common.{rules, List, ℕ, length, ap, sym, ◌∙◌, Some}
use Rattle.std.proofs.lemmas.Int.{to_z-of_z}
use mir.Syntax.{w128}
use Rattle.relocate.specs.Value.{value_of}
use Rattle.relocate.proofs.PatchLemmas.{within_at}
use Rattle.relocate.proofs.NumberLemmas.{is_meant, none_outside, left_there, value_there}
use Rattle.relocate.proofs.writing.patch_field.Goals as goal

pub returns-then-patch_in_range-clause-outside : goal.returns-then-patch_in_range-clause-outside
returns-then-patch_in_range-clause-outside c =
    none_outside c.args.base c.args.rva c.args.layout.now c.args.owner.now c.args.fix.now c.args.bytes.now (sym c.if-patch_in_range.ensures.fits)

pub value_of-requires-clause-within : goal.value_of-requires-clause-within
value_of-requires-clause-within c =
    let same = c.if-patch_in_range.ensures.patched ∙ left_there c.args.base c.args.rva c.args.layout.now c.args.owner.now c.args.fix.now c.args.bytes.now (sym c.if-patch_in_range.ensures.fits) in
    rw same (within_at (length c.args.bytes.now) c.args.fix.now c.requires.patchable)

pub value_of-requires-clause-meant : goal.value_of-requires-clause-meant
value_of-requires-clause-meant c = is_meant (length c.args.bytes.now) c.args.fix.now c.requires.patchable

pub returns-clause-outside : goal.returns-clause-outside
returns-clause-outside c =
    let misfit = sym c.if-patch_in_range.ensures.fits in
    let same = c.if-patch_in_range.ensures.patched ∙ left_there c.args.base c.args.rva c.args.layout.now c.args.owner.now c.args.fix.now c.args.bytes.now misfit in
    let value = c.value_of.ensures ∙ ap (λ (bytes : List ℕ). value_of c.args.base c.args.rva c.args.layout.now c.args.owner.now bytes c.args.fix.now) same in
    ap Some (to_z-of_z w128 c.value_of.result (search rules) ∙ value) ∙ value_there c.args.base c.args.rva c.args.layout.now c.args.owner.now c.args.fix.now c.args.bytes.now misfit
