use Rattle.std.proofs.Common.{◌≡◌, ◌<◌, ◌^◌, pos, length, ◌∙◌, ap, sym, arith}
use Rattle.relocate.specs.Value.{address_of, section_start, target_of}
use Rattle.relocate.specs.Written.{number_in}
use Rattle.relocate.proofs.PatchLemmas.{within_at}
use Rattle.relocate.proofs.WriteLemmas.{width_secrel}
use Rattle.relocate.proofs.NumberLemmas.{number_secrel, near_subtracted}
use Rattle.relocate.proofs.number.secrel_number.Goals as goal

pub old_in_four-old-requires : goal.old_in_four-old-requires
old_in_four-old-requires c =
    let end = within_at (length c.args.bytes.now) c.args.fix.now c.requires.ready.patchable in
    let width = width_secrel c.args.fix.now.kind c.requires.kind in
    omega arith

pub returns : goal.returns
returns c = λ base at.
    let rva = c.rva_of-rva.ensures.value ∙ ap (address_of 0 c.args.layout.now) c.requires.ready.means in
    let start : c.section_start.result ≡ section_start c.args.layout.now c.args.owner.now (target_of c.args.fix.now) = c.section_start.ensures ∙ ap (section_start c.args.layout.now c.args.owner.now) c.requires.ready.means in
    let low : section_start c.args.layout.now c.args.owner.now (target_of c.args.fix.now) < 2 ^ 32 = rw (sym start) c.section_start.type_inv in
    c.unsigned.ensures
    ∙ ap (number_in 4 (pos 0) (pos 0x1_0000_0000)) (near_subtracted c.rva_of-rva.result _ _ c.old_in_four-old.result _ _ rva c.rva_of-rva.ensures.small c.old_in_four-old.ensures.value c.old_in_four-old.ensures.near (c.from-start.ensures ∙ ap pos start) low)
    ∙ sym (number_secrel base at c.args.layout.now c.args.owner.now c.args.fix.now c.args.bytes.now c.requires.kind)
