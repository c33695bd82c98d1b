use Rattle.std.proofs.Common.{◌≡◌, ◌≤◌, ◌++◌, map, drop}
use Rattle.res_merge.specs.Entries.{entry_of}
use Rattle.res_merge.specs.Tree.{data_from}
use Rattle.res_merge.proofs.leaves.push_data.Given as goal

abbrev pub invariant-loop-resource : goal.invariant-loop-resource
invariant-loop-resource l = record {
  written : l.out.items ++ data_from l.zeros (map entry_of (drop l.resource-index l.resources)) ≡ l.initial.out.items ++ data_from 0 (map entry_of l.resources);
  few : l.zeros ≤ 4;
}
