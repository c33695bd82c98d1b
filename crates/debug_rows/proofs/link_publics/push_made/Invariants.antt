use Rattle.std.proofs.Common.{◌≡◌, ◌++◌, take}
use Rattle.std.specs.List.{filter_map}
use Rattle.debug_rows.specs.Publics.{made_public}
use Rattle.debug_rows.proofs.link_publics.push_made.Given as goal

abbrev pub invariant-loop-definition : goal.invariant-loop-definition
invariant-loop-definition l = l.publics.items ≡ l.fn.publics.items ++ filter_map (made_public l.names l.position) (take l.definition-index l.definitions)
