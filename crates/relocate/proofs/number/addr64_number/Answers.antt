use Rattle.std.proofs.Common.{ℕ, ◌+◌, length, ◌∙◌, ap, sym, arith, Some}
use Rattle.relocate.specs.Value.{address_of}
use Rattle.relocate.proofs.PatchLemmas.{within_at}
use Rattle.relocate.proofs.WriteLemmas.{width_addr64}
use Rattle.relocate.proofs.NumberLemmas.{number_addr64, address_held}
use Rattle.relocate.proofs.number.addr64_number.Goals as goal

pub u64_in-requires : goal.u64_in-requires
u64_in-requires c =
    let end = within_at (length c.args.bytes.now) c.args.fix.now c.requires.ready.patchable in
    let width = width_addr64 c.args.fix.now.kind c.requires.kind in
    omega arith

pub returns : goal.returns
returns c = λ rva.
    let address = sym (ap (address_of c.args.base c.args.layout.now) c.requires.ready.means) ∙ c.base_under.ensures c.args.layout.now ∙ ap (λ (n : ℕ). c.base_under.result + n) (sym c.rva_of.ensures.value) in
    ap Some (address_held c.base_under.result c.rva_of.result _ c.u64_in.result _ address c.u64_in.ensures c.u64_in.type_inv)
    ∙ sym (number_addr64 c.args.base rva c.args.layout.now c.args.owner.now c.args.fix.now c.args.bytes.now c.requires.kind)
