use Rattle.std.proofs.Common.{sym, ◌∙◌, arith}
use Rattle.res_merge.proofs.OrderLemmas.{unit_level, units_end}
use Rattle.res_merge.proofs.order.compare_texts.Goals as goal

pub loop-k-preserved : goal.loop-k-preserved
loop-k-preserved c = record {
  level = c.loop-k.invariant.level ∙ unit_level c.args.left.now c.args.right.now c.loop-k.k c.then-order.result (omega (arith, c.min-count.ensures)) (omega (arith, c.min-count.ensures)) (grind arith) (grind arith);
}

pub returns : goal.returns
returns c =
    c.cmp-2.ensures
    ∙ units_end c.args.left.now c.args.right.now c.loop-k.k (omega (arith, c.min-count.ensures)) (omega (arith, c.min-count.ensures)) (omega (arith, c.min-count.ensures))
    ∙ sym c.loop-k.invariant.level
