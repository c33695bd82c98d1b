use Rattle.std.proofs.Common.{◌≡◌, take}
use Rattle.std.specs.List.{filter_map}
use Rattle.debug_rows.specs.KeptPublics.{kept_public}
use Rattle.debug_rows.proofs.kept_places.kept_publics.Given as goal

abbrev pub invariant-loop-public : goal.invariant-loop-public
invariant-loop-public l = l.list.items ≡ filter_map (kept_public l.kept l.places l.first l.table l.offsets) (take l.public-index l.publics)
