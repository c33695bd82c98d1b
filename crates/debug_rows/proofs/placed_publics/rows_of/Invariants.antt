use Rattle.std.proofs.Common.{◌≡◌, map, take}
use Rattle.debug_rows.specs.PlacedPublics.{map_public}
use Rattle.debug_rows.proofs.placed_publics.rows_of.Given as goal

abbrev pub invariant-loop-key : goal.invariant-loop-key
invariant-loop-key l = l.rows.items ≡ map map_public (take l.key-index l.keys)
