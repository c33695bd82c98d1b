use Rattle.indexmap.specs.IndexMap.{get}
use Rattle.section_group.specs.Merging.{same_name}
use Rattle.section_group.proofs.ChainLemmas.{adds}
use Rattle.section_group.proofs.targets.add_targets.Goals as goal

pub loop-left-preserved : goal.loop-left-preserved
loop-left-preserved c = λ q.
    adds c.args.merges.now c.loop-left.left-index c.loop-left-item.result (get same_name c.args.targets.now q) (get same_name c.loop-left.targets q) (get same_name c.add_target.new.targets q) q c.loop-left-test.true c.loop-left-item.is (c.loop-left.invariant q) (c.in_ok-add_target.ensures q)
