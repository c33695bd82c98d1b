use Rattle.std.proofs.Common.{◌≡◌, ◌++◌, take}
use Rattle.std.specs.List.{filter_map}
use Rattle.debug_rows.specs.Publics.{common_public}
use Rattle.debug_rows.proofs.link_publics.push_commons.Given as goal

abbrev pub invariant-loop-common : goal.invariant-loop-common
invariant-loop-common l = l.publics.items ≡ l.fn.publics.items ++ filter_map (common_public l.names l.position) (take l.common-index l.commons)
