use Rattle.relocate.proofs.ApartLemmas.{ApartTo}
use Rattle.relocate.proofs.any_order.are_apart.Given as goal

abbrev pub invariant-loop-packed : goal.invariant-loop-packed
invariant-loop-packed l = ApartTo l.fields l.packed-index l.end
