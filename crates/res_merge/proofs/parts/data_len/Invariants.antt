use Rattle.std.proofs.Common.{◌≡◌, ◌+◌, ◌<◌, ◌≤◌, ◌^◌, map, drop, length}
use Rattle.res_merge.specs.Entries.{entry_of}
use Rattle.res_merge.specs.Tree.{data_from}
use Rattle.res_merge.proofs.parts.data_len.Given as goal

abbrev pub invariant-loop-resource : goal.invariant-loop-resource
invariant-loop-resource l = record {
  small : l.next < 2 ^ 31 + 4;
  left : l.resource-index < length l.resources → l.next + length (data_from 0 (map entry_of (drop l.resource-index l.resources))) ≡ length (data_from 0 (map entry_of l.resources));
  done : length l.resources ≤ l.resource-index → l.end ≡ length (data_from 0 (map entry_of l.resources));
}
