use Rattle.std.proofs.Common.{length, ◌∙◌, ap, sym, arith}
use Rattle.relocate.specs.Value.{section_number}
use Rattle.relocate.proofs.PatchLemmas.{within_at}
use Rattle.relocate.proofs.WriteLemmas.{width_section}
use Rattle.relocate.proofs.NumberLemmas.{number_section}
use Rattle.relocate.proofs.number.section_number_of.Goals as goal

pub u16_in-old-requires : goal.u16_in-old-requires
u16_in-old-requires c =
    let end = within_at (length c.args.bytes.now) c.args.fix.now c.requires.ready.patchable in
    let width = width_section c.args.fix.now.kind c.requires.kind in
    omega arith

pub returns : goal.returns
returns c = λ base at.
    let number = c.section_number.ensures.value ∙ ap (section_number c.args.owner.now) c.requires.ready.means in
    let old = c.from.ensures ∙ c.u16_in-old.ensures in
    rw (c.two_bytes.ensures, number, old) (sym (number_section base at c.args.layout.now c.args.owner.now c.args.fix.now c.args.bytes.now c.requires.kind))
