use Rattle.std.proofs.Common.{◌≡◌, take}
use Rattle.section_group.specs.Uniqueness.{rows_of}
use Rattle.debug_rows.specs.PlacedPublics.{public_rows_of}
use Rattle.debug_rows.proofs.placed_publics.public_rows.Given as goal

abbrev pub invariant-loop-public : goal.invariant-loop-public
invariant-loop-public l = l.rows.items ≡ public_rows_of l.owner (rows_of l.sections) l.layout.sections.items l.layout.pieces.items (take l.public-index l.publics)
