use Rattle.std.proofs.Common.{◌≡◌, ◌<◌, ◌+◌, ◌++◌, ◌^◌, map, drop, length}
use Rattle.res_merge.specs.Entries.{entry_of}
use Rattle.res_merge.specs.Tree.{leaves, data_from}
use Rattle.res_merge.proofs.leaves.push_leaves.Given as goal

abbrev pub invariant-loop-resource : goal.invariant-loop-resource
invariant-loop-resource l = record {
  written : l.out.items ++ leaves l.place (map entry_of (drop l.resource-index l.resources)) ≡ l.initial.out.items ++ leaves l.rva (map entry_of l.resources);
  near : l.place < 2 ^ 32 + 4;
  fits : l.resource-index < length l.resources → l.place + length (data_from 0 (map entry_of (drop l.resource-index l.resources))) < 2 ^ 32;
}
