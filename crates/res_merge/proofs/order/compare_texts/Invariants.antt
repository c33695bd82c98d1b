use Rattle.std.proofs.Common.{◌≡◌, ◌*◌, drop}
use Rattle.std.specs.Ordering.{nat_cmp}
use Rattle.std.specs.Cmp.Lexicographic.{slice_cmp}
use Rattle.res_merge.specs.Order.{high_first}
use Rattle.res_merge.proofs.order.compare_texts.Given as goal

abbrev pub invariant-loop-k : goal.invariant-loop-k
invariant-loop-k l = record {
  level : slice_cmp nat_cmp (high_first l.left) (high_first l.right) ≡ slice_cmp nat_cmp (high_first (drop (2 * l.k) l.left)) (high_first (drop (2 * l.k) l.right));
}
