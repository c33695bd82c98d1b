use Rattle.std.proofs.Common.{◌≡◌, ◌+◌, ◌*◌, ◌++◌, map, drop}
use Rattle.res_merge.specs.Entries.{entry_of}
use Rattle.res_merge.specs.Tree.{language_rows}
use Rattle.res_merge.proofs.rows.language_rows.Given as goal

abbrev pub invariant-loop-resource : goal.invariant-loop-resource
invariant-loop-resource l = record {
  found : l.found.items ++ language_rows l.leaf (map entry_of (drop l.resource-index l.resources)) ≡ language_rows l.fn.leaf (map entry_of l.resources);
  leaf : l.leaf ≡ l.fn.leaf + 16 * l.resource-index;
}
