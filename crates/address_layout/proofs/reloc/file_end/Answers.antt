use Rattle.std.proofs.Common.{◌<◌, List, suc, length, ap, arith}
use Rattle.address_layout.specs.declared.layout.Placed.{Placed}
use Rattle.address_layout.specs.Layout.{placed_at}
use Rattle.address_layout.proofs.RelocLemmas.{file_grows}
use Rattle.address_layout.proofs.reloc.file_end.Goals as goal

pub overflow_add-end : goal.overflow_add-end
overflow_add-end c =
    let layout = c.args.layout.now in
    let i = c.loop-placed.placed-index in
    let read = ap (λ (ps : List Placed). (placed_at ps i).raw) c.deref-placed-items.ensures.value in
    let within : i < length layout.sections.items = omega (arith, ap length c.deref-placed-items.ensures.value) in
    let grows = file_grows layout.headers (placed_at layout.sections.items) (suc i) (length layout.sections.items) (omega arith) in
    omega (arith, read, grows, c.requires.file, c.loop-placed.invariant)
