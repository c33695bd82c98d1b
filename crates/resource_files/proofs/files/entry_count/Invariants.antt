use Rattle.res_merge.specs.Left.{items_left}
use Rattle.res_merge.specs.ResourceFile.{resources_of}
use Rattle.resource_files.proofs.ResourceLemmas.{CountsOn}
use Rattle.resource_files.proofs.files.entry_count.Given as goal

abbrev pub invariant-loop-item : goal.invariant-loop-item
invariant-loop-item l = record {
  can : (goal.iterator-loop-item).can_next l.item-iterator;
  ends : (goal.iterator-loop-item).is_finite l.item-iterator;
  counts : CountsOn (resources_of l.bytes) (items_left l.item-iterator) l.count;
}
