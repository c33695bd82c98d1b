use Rattle.std.proofs.Common.{◌≡◌, ◌+◌, ◌<◌, List, suc, length, refl, ap, subst, arith}
use Rattle.address_layout.specs.declared.layout.Placed.{Placed}
use Rattle.address_layout.specs.Places.{file_before}
use Rattle.address_layout.specs.Layout.{placed_at}
use Rattle.image_writer.proofs.LaidOutLemmas.{file_rises}
use Rattle.image_writer.proofs.writing.file_len.Goals as goal

pub overflow_add-len : goal.overflow_add-len
overflow_add-len c =
    let layout = c.args.layout.now in
    let items = layout.sections.items in
    let i = c.loop-placed.placed-index in
    let same = c.deref-placed-items.ensures.value in
    let lt : i < length items = subst (λ (xs : List Placed). i < length xs) same c.loop-placed-test.true in
    let raw = ap (λ (xs : List Placed). (placed_at xs i).raw) same in
    let next : file_before layout.headers (placed_at items) (suc i) ≡ file_before layout.headers (placed_at items) i + (placed_at items i).raw = refl in
    omega (arith, c.loop-placed.invariant, raw, next, file_rises layout.headers (placed_at items) (suc i) (length items) lt, c.requires)
