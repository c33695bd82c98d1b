use Rattle.std.proofs.Common.{◌≡◌, take}
use Rattle.std.specs.List.{filter_map}
use Rattle.section_group.specs.Uniqueness.{rows_of}
use Rattle.debug_rows.specs.PlacedPublics.{placed_key}
use Rattle.debug_rows.proofs.placed_publics.public_keys.Given as goal

abbrev pub invariant-loop-public : goal.invariant-loop-public
invariant-loop-public l = l.keys.items ≡ filter_map (placed_key l.owner (rows_of l.sections) l.layout.pieces.items) (take l.public-index l.publics)
