use Rattle.std.proofs.Common.{ℕ, ◌+◌, length, ◌∙◌, ap, sym, arith}
use Rattle.relocate.specs.Value.{address_of}
use Rattle.relocate.proofs.PatchLemmas.{within_at}
use Rattle.relocate.proofs.WriteLemmas.{width_addr32}
use Rattle.relocate.proofs.NumberLemmas.{number_addr32, near_added, low_moved}
use Rattle.relocate.proofs.number.addr32_number.Goals as goal

pub old_in_four-old-requires : goal.old_in_four-old-requires
old_in_four-old-requires c =
    let end = within_at (length c.args.bytes.now) c.args.fix.now c.requires.ready.patchable in
    let width = width_addr32 c.args.fix.now.kind c.requires.kind in
    omega arith

pub returns : goal.returns
returns c = λ at.
    let rva = c.rva_of-rva.ensures.value ∙ ap (address_of 0 c.args.layout.now) c.requires.ready.means in
    let address = sym (ap (address_of c.args.base c.args.layout.now) c.requires.ready.means) ∙ c.base_under.ensures c.args.layout.now ∙ ap (λ (n : ℕ). c.base_under.result + n) (ap (address_of 0 c.args.layout.now) c.requires.ready.means) in
    c.low_address.ensures
    ∙ low_moved c.base_under.result _ _ _ _ (near_added c.rva_of-rva.result _ c.old_in_four-old.result _ rva c.rva_of-rva.ensures.small c.old_in_four-old.ensures.value c.old_in_four-old.ensures.near) address
    ∙ sym (number_addr32 c.args.base at c.args.layout.now c.args.owner.now c.args.fix.now c.args.bytes.now c.requires.kind)
