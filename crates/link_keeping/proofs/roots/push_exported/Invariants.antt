use Rattle.std.proofs.Common.{◌≡◌, ◌++◌, take, option_and_then}
use Rattle.std.specs.Prelude.{filter_map}
use Rattle.link_fields.specs.Targets.{piece_in}
use Rattle.link_keeping.proofs.roots.push_exported.Given as goal

abbrev pub invariant-loop-target : goal.invariant-loop-target
invariant-loop-target l = l.nodes.items ≡ l.fn.nodes.items ++ filter_map (option_and_then piece_in) (take l.target-index l.targets)
