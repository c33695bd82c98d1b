use Rattle.std.proofs.Common.{◌<◌, ◌^◌, sym, ◌∙◌, ap, pos, ◌+ℤ◌, ◌-ℤ◌, ◌+◌, ℕ, arith}
use Rattle.relocate.proofs.ValueLemmas.{added, subtracted_added, added_subtracted, row_addr64, row_addr32, row_addr32nb, row_section, row_secrel, row_rel32}
use Rattle.relocate.proofs.value.field_value.Goals as goal

pub returns-then-kind-eq-REL_AMD64_ADDR64 : goal.returns-then-kind-eq-REL_AMD64_ADDR64
returns-then-kind-eq-REL_AMD64_ADDR64 c =
    added _ _ c.requires.address c.requires.old ∙ sym (row_addr64 c.args.kind c.args.parts.now c.if-kind-eq-REL_AMD64_ADDR64.true)

pub returns-then-kind-eq-REL_AMD64_ADDR32 : goal.returns-then-kind-eq-REL_AMD64_ADDR32
returns-then-kind-eq-REL_AMD64_ADDR32 c =
    added _ _ c.requires.address c.requires.old ∙ sym (row_addr32 c.args.kind c.args.parts.now c.if-kind-eq-REL_AMD64_ADDR32.true)

pub returns-then-kind-eq-REL_AMD64_ADDR32NB : goal.returns-then-kind-eq-REL_AMD64_ADDR32NB
returns-then-kind-eq-REL_AMD64_ADDR32NB c =
    added _ _ c.requires.rva c.requires.old ∙ sym (row_addr32nb c.args.kind c.args.parts.now c.if-kind-eq-REL_AMD64_ADDR32NB.true)

pub returns-then-kind-eq-REL_AMD64_SECTION : goal.returns-then-kind-eq-REL_AMD64_SECTION
returns-then-kind-eq-REL_AMD64_SECTION c =
    added _ _ c.requires.number c.requires.old ∙ sym (row_section c.args.kind c.args.parts.now c.if-kind-eq-REL_AMD64_SECTION.true)

pub returns-then-kind-eq-REL_AMD64_SECREL : goal.returns-then-kind-eq-REL_AMD64_SECREL
returns-then-kind-eq-REL_AMD64_SECREL c =
    subtracted_added _ _ _ c.requires.rva c.requires.start c.requires.old ∙ sym (row_secrel c.args.kind c.args.parts.now c.if-kind-eq-REL_AMD64_SECREL.true)

pub returns-else-kind-eq-REL_AMD64_SECREL : goal.returns-else-kind-eq-REL_AMD64_SECREL
returns-else-kind-eq-REL_AMD64_SECREL c =
    let small : c.saturating_sub.result < 2 ^ 16 = omega (arith, c.saturating_sub.ensures, c.ranges.kind) in
    added_subtracted c.args.parts.now.address c.args.parts.now.old c.args.parts.now.place c.saturating_sub.result c.requires.address c.requires.old c.requires.place small
    ∙ ap (λ (n : ℕ). (c.args.parts.now.address +ℤ c.args.parts.now.old) -ℤ (c.args.parts.now.place +ℤ pos (4 + n))) c.saturating_sub.ensures
    ∙ sym (row_rel32 c.args.kind c.args.parts.now c.if-kind-eq-REL_AMD64_ADDR64.false c.if-kind-eq-REL_AMD64_ADDR32.false c.if-kind-eq-REL_AMD64_ADDR32NB.false c.if-kind-eq-REL_AMD64_SECTION.false c.if-kind-eq-REL_AMD64_SECREL.false)
