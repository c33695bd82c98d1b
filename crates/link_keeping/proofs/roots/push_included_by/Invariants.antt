use Rattle.std.proofs.Common.{◌≡◌, ◌++◌, map, take}
use Rattle.std.specs.Prelude.{filter_map, IfSome}
use Rattle.directives.specs.Said.{said}
use Rattle.link_keeping.specs.Reach.{name_node, included}
use Rattle.link_keeping.specs.LookedUp.{MeansNode}
use Rattle.link_keeping.proofs.roots.push_included_by.Given as goal

abbrev pub invariant-loop-directive : goal.invariant-loop-directive
invariant-loop-directive l = record {
  nodes : l.nodes.items ≡ l.fn.nodes.items ++ filter_map (name_node l.names) (filter_map included (map said (take l.directive-index l.directives)));
  last : IfSome l.last (MeansNode l.names);
}
