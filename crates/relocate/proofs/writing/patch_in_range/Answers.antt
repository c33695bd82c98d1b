use Rattle.std.proofs.Common.{length, arith, ◌∙◌}
use Rattle.relocate.proofs.PatchLemmas.{within_at}
use Rattle.relocate.proofs.WriteLemmas.{width_section, width_addr64, width_addr32, width_addr32nb, width_rel32, width_secrel}
use Rattle.relocate.proofs.NumberLemmas.{is_meant, secrel_left, number_fits, number_patched}
use Rattle.relocate.proofs.writing.patch_in_range.Goals as goal

pub target_of-target-requires : goal.target_of-target-requires
target_of-target-requires c = is_meant (length c.args.bytes.now) c.args.fix.now c.requires.patchable

pub secrel_number-number-requires-clause-kind : goal.secrel_number-number-requires-clause-kind
secrel_number-number-requires-clause-kind c =
    secrel_left (length c.args.bytes.now) c.args.fix.now c.requires.patchable c.if-counts_from_place.ensures c.if-fix-eq-REL_AMD64_ADDR64.false c.if-fix-eq-REL_AMD64_ADDR32.false c.if-fix-eq-REL_AMD64_ADDR32NB.false c.if-fix-eq-REL_AMD64_SECTION.false

pub write_four-requires-clause-width : goal.write_four-requires-clause-width
write_four-requires-clause-width c = width_rel32 c.args.fix.now.kind c.requires.patchable.some c.if-counts_from_place.ensures.0 c.if-counts_from_place.ensures.1

pub write_four-requires-clause-within : goal.write_four-requires-clause-within
write_four-requires-clause-within c =
    let end = within_at (length c.args.bytes.now) c.args.fix.now c.requires.patchable in
    let width = width_rel32 c.args.fix.now.kind c.requires.patchable.some c.if-counts_from_place.ensures.0 c.if-counts_from_place.ensures.1 in
    omega arith

pub returns-then-counts_from_place-clause-fits : goal.returns-then-counts_from_place-clause-fits
returns-then-counts_from_place-clause-fits c =
    c.write_four.ensures.some ∙ number_fits c.args.base c.args.rva c.args.layout.now c.args.owner.now c.args.fix.now c.args.bytes.now c.rel32_number-number.result (c.rel32_number-number.ensures c.args.base)

pub returns-then-counts_from_place-clause-patched : goal.returns-then-counts_from_place-clause-patched
returns-then-counts_from_place-clause-patched c =
    c.write_four.ensures.bytes ∙ number_patched c.args.base c.args.rva c.args.layout.now c.args.owner.now c.args.fix.now c.args.bytes.now c.rel32_number-number.result (c.rel32_number-number.ensures c.args.base)

pub write_eight-requires-clause-width : goal.write_eight-requires-clause-width
write_eight-requires-clause-width c = width_addr64 c.args.fix.now.kind c.if-fix-eq-REL_AMD64_ADDR64.true

pub write_eight-requires-clause-within : goal.write_eight-requires-clause-within
write_eight-requires-clause-within c =
    let end = within_at (length c.args.bytes.now) c.args.fix.now c.requires.patchable in
    let width = width_addr64 c.args.fix.now.kind c.if-fix-eq-REL_AMD64_ADDR64.true in
    omega arith

pub returns-then-fix-eq-REL_AMD64_ADDR64-clause-fits : goal.returns-then-fix-eq-REL_AMD64_ADDR64-clause-fits
returns-then-fix-eq-REL_AMD64_ADDR64-clause-fits c =
    c.write_eight.ensures.some ∙ number_fits c.args.base c.args.rva c.args.layout.now c.args.owner.now c.args.fix.now c.args.bytes.now c.addr64_number-number.result (c.addr64_number-number.ensures c.args.rva)

pub returns-then-fix-eq-REL_AMD64_ADDR64-clause-patched : goal.returns-then-fix-eq-REL_AMD64_ADDR64-clause-patched
returns-then-fix-eq-REL_AMD64_ADDR64-clause-patched c =
    c.write_eight.ensures.bytes ∙ number_patched c.args.base c.args.rva c.args.layout.now c.args.owner.now c.args.fix.now c.args.bytes.now c.addr64_number-number.result (c.addr64_number-number.ensures c.args.rva)

pub write_four-requires-then-fix-eq-REL_AMD64_ADDR32-clause-width : goal.write_four-requires-then-fix-eq-REL_AMD64_ADDR32-clause-width
write_four-requires-then-fix-eq-REL_AMD64_ADDR32-clause-width c = width_addr32 c.args.fix.now.kind c.if-fix-eq-REL_AMD64_ADDR32.true

pub write_four-requires-then-fix-eq-REL_AMD64_ADDR32-clause-within : goal.write_four-requires-then-fix-eq-REL_AMD64_ADDR32-clause-within
write_four-requires-then-fix-eq-REL_AMD64_ADDR32-clause-within c =
    let end = within_at (length c.args.bytes.now) c.args.fix.now c.requires.patchable in
    let width = width_addr32 c.args.fix.now.kind c.if-fix-eq-REL_AMD64_ADDR32.true in
    omega arith

pub returns-then-fix-eq-REL_AMD64_ADDR32-clause-fits : goal.returns-then-fix-eq-REL_AMD64_ADDR32-clause-fits
returns-then-fix-eq-REL_AMD64_ADDR32-clause-fits c =
    c.write_four-then-fix-eq-REL_AMD64_ADDR32.ensures.some ∙ number_fits c.args.base c.args.rva c.args.layout.now c.args.owner.now c.args.fix.now c.args.bytes.now c.addr32_number-number.result (c.addr32_number-number.ensures c.args.rva)

pub returns-then-fix-eq-REL_AMD64_ADDR32-clause-patched : goal.returns-then-fix-eq-REL_AMD64_ADDR32-clause-patched
returns-then-fix-eq-REL_AMD64_ADDR32-clause-patched c =
    c.write_four-then-fix-eq-REL_AMD64_ADDR32.ensures.bytes ∙ number_patched c.args.base c.args.rva c.args.layout.now c.args.owner.now c.args.fix.now c.args.bytes.now c.addr32_number-number.result (c.addr32_number-number.ensures c.args.rva)

pub write_four-requires-then-fix-eq-REL_AMD64_ADDR32NB-clause-width : goal.write_four-requires-then-fix-eq-REL_AMD64_ADDR32NB-clause-width
write_four-requires-then-fix-eq-REL_AMD64_ADDR32NB-clause-width c = width_addr32nb c.args.fix.now.kind c.if-fix-eq-REL_AMD64_ADDR32NB.true

pub write_four-requires-then-fix-eq-REL_AMD64_ADDR32NB-clause-within : goal.write_four-requires-then-fix-eq-REL_AMD64_ADDR32NB-clause-within
write_four-requires-then-fix-eq-REL_AMD64_ADDR32NB-clause-within c =
    let end = within_at (length c.args.bytes.now) c.args.fix.now c.requires.patchable in
    let width = width_addr32nb c.args.fix.now.kind c.if-fix-eq-REL_AMD64_ADDR32NB.true in
    omega arith

pub returns-then-fix-eq-REL_AMD64_ADDR32NB-clause-fits : goal.returns-then-fix-eq-REL_AMD64_ADDR32NB-clause-fits
returns-then-fix-eq-REL_AMD64_ADDR32NB-clause-fits c =
    c.write_four-then-fix-eq-REL_AMD64_ADDR32NB.ensures.some ∙ number_fits c.args.base c.args.rva c.args.layout.now c.args.owner.now c.args.fix.now c.args.bytes.now c.addr32nb_number-number.result (c.addr32nb_number-number.ensures c.args.base c.args.rva)

pub returns-then-fix-eq-REL_AMD64_ADDR32NB-clause-patched : goal.returns-then-fix-eq-REL_AMD64_ADDR32NB-clause-patched
returns-then-fix-eq-REL_AMD64_ADDR32NB-clause-patched c =
    c.write_four-then-fix-eq-REL_AMD64_ADDR32NB.ensures.bytes ∙ number_patched c.args.base c.args.rva c.args.layout.now c.args.owner.now c.args.fix.now c.args.bytes.now c.addr32nb_number-number.result (c.addr32nb_number-number.ensures c.args.base c.args.rva)

pub write_two-requires-clause-width : goal.write_two-requires-clause-width
write_two-requires-clause-width c = width_section c.args.fix.now.kind c.if-fix-eq-REL_AMD64_SECTION.true

pub write_two-requires-clause-within : goal.write_two-requires-clause-within
write_two-requires-clause-within c =
    let end = within_at (length c.args.bytes.now) c.args.fix.now c.requires.patchable in
    let width = width_section c.args.fix.now.kind c.if-fix-eq-REL_AMD64_SECTION.true in
    omega arith

pub returns-then-fix-eq-REL_AMD64_SECTION-clause-fits : goal.returns-then-fix-eq-REL_AMD64_SECTION-clause-fits
returns-then-fix-eq-REL_AMD64_SECTION-clause-fits c =
    c.write_two.ensures.some ∙ number_fits c.args.base c.args.rva c.args.layout.now c.args.owner.now c.args.fix.now c.args.bytes.now c.section_number_of-number.result (c.section_number_of-number.ensures c.args.base c.args.rva)

pub returns-then-fix-eq-REL_AMD64_SECTION-clause-patched : goal.returns-then-fix-eq-REL_AMD64_SECTION-clause-patched
returns-then-fix-eq-REL_AMD64_SECTION-clause-patched c =
    c.write_two.ensures.bytes ∙ number_patched c.args.base c.args.rva c.args.layout.now c.args.owner.now c.args.fix.now c.args.bytes.now c.section_number_of-number.result (c.section_number_of-number.ensures c.args.base c.args.rva)

pub write_four-requires-2-clause-width : goal.write_four-requires-2-clause-width
write_four-requires-2-clause-width c = width_secrel c.args.fix.now.kind (secrel_left (length c.args.bytes.now) c.args.fix.now c.requires.patchable c.if-counts_from_place.ensures c.if-fix-eq-REL_AMD64_ADDR64.false c.if-fix-eq-REL_AMD64_ADDR32.false c.if-fix-eq-REL_AMD64_ADDR32NB.false c.if-fix-eq-REL_AMD64_SECTION.false)

pub write_four-requires-2-clause-within : goal.write_four-requires-2-clause-within
write_four-requires-2-clause-within c =
    let end = within_at (length c.args.bytes.now) c.args.fix.now c.requires.patchable in
    let width = width_secrel c.args.fix.now.kind (secrel_left (length c.args.bytes.now) c.args.fix.now c.requires.patchable c.if-counts_from_place.ensures c.if-fix-eq-REL_AMD64_ADDR64.false c.if-fix-eq-REL_AMD64_ADDR32.false c.if-fix-eq-REL_AMD64_ADDR32NB.false c.if-fix-eq-REL_AMD64_SECTION.false) in
    omega arith

pub returns-clause-fits : goal.returns-clause-fits
returns-clause-fits c =
    c.write_four-2.ensures.some ∙ number_fits c.args.base c.args.rva c.args.layout.now c.args.owner.now c.args.fix.now c.args.bytes.now c.secrel_number-number.result (c.secrel_number-number.ensures c.args.base c.args.rva)

pub returns-clause-patched : goal.returns-clause-patched
returns-clause-patched c =
    c.write_four-2.ensures.bytes ∙ number_patched c.args.base c.args.rva c.args.layout.now c.args.owner.now c.args.fix.now c.args.bytes.now c.secrel_number-number.result (c.secrel_number-number.ensures c.args.base c.args.rva)
