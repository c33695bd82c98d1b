use Rattle.std.proofs.Common.{◌≤◌, sym, arith}
use Rattle.relocate.proofs.any_order.overlaps.Goals as goal

pub overflow_add-place : goal.overflow_add-place
overflow_add-place c =
    let small : c.in-Some.width.now ≤ 8 = c.requires.narrow c.loop-place.place-counter c.in-Some.width.now (sym c.in-Some.ensures.value) in
    omega (arith, small, c.field_end-end.ensures.small, c.loop-place-test.true)
