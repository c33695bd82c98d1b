use Rattle.std.proofs.Common.{◌≡◌, ◌++◌, take}
use Rattle.std.specs.Prelude.{filter_map}
use Rattle.std.specs.List.{flat_map}
use Rattle.link_keeping.specs.Reach.{name_node, included_by}
use Rattle.link_keeping.proofs.roots.push_included.Given as goal

abbrev pub invariant-loop-module : goal.invariant-loop-module
invariant-loop-module l = l.nodes.items ≡ l.fn.nodes.items ++ filter_map (name_node l.names) (flat_map included_by (take l.module-index l.modules))
