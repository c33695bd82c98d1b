use Rattle.std.proofs.Common.{rules, ◌+◌, ◌-◌, ◌<◌, ◌^◌, pos, negsuc, length, ◌∙◌, ap, sym, arith, lt-ltb}
use Rattle.relocate.specs.Field.{field_width}
use Rattle.relocate.specs.Value.{address_of}
use Rattle.relocate.specs.Written.{number_in}
use Rattle.relocate.proofs.PatchLemmas.{within_at}
use Rattle.relocate.proofs.WriteLemmas.{width_rel32}
use Rattle.relocate.proofs.NumberLemmas.{number_rel32, near_behind}
use Rattle.relocate.proofs.number.rel32_number.Goals as goal

pub old_in_four-old-requires : goal.old_in_four-old-requires
old_in_four-old-requires c =
    let end = within_at (length c.args.bytes.now) c.args.fix.now c.requires.ready.patchable in
    let width = width_rel32 c.args.fix.now.kind c.requires.ready.patchable.some c.requires.kind.0 c.requires.kind.1 in
    omega arith

pub returns : goal.returns
returns c = λ base.
    let there = c.rva_of-there.ensures.value ∙ ap (address_of 0 c.args.layout.now) c.requires.ready.means in
    let some = lt-ltb 0 (field_width c.args.fix.now.kind) c.requires.ready.patchable.some in
    let low = c.requires.kind.0 in
    let high = c.requires.kind.1 in
    let at : c.args.fix.now.at < 2 ^ 32 = search rules in
    let behind : 4 + (c.args.fix.now.kind - 4) < 2 ^ 17 = omega arith in
    c.signed.ensures
    ∙ ap (number_in 4 (negsuc 0x7FFF_FFFF) (pos 0x8000_0000)) (near_behind c.rva_of-there.result _ c.args.rva c.args.fix.now.at (4 + (c.args.fix.now.kind - 4)) c.old_in_four-old.result _ _ _ _ there c.rva_of-there.ensures.small c.old_in_four-old.ensures.value c.old_in_four-old.ensures.near c.from.ensures c.ranges.rva.fits c.from-2.ensures at c.behind.ensures behind)
    ∙ sym (number_rel32 base c.args.rva c.args.layout.now c.args.owner.now c.args.fix.now c.args.bytes.now c.requires.ready.patchable some low high)
