use Rattle.std.proofs.Common.{◌≡◌, ◌++◌, take}
use Rattle.std.specs.Prelude.{filter_map}
use Rattle.link_keeping.specs.Reach.{name_node}
use Rattle.link_keeping.proofs.roots.push_names.Given as goal

abbrev pub invariant-loop-name : goal.invariant-loop-name
invariant-loop-name l = l.nodes.items ≡ l.fn.nodes.items ++ filter_map (name_node l.names) (take l.name-index l.list)
