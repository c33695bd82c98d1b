use Rattle.std.proofs.Common.{◌≡◌, take}
use Rattle.implib.specs.Listings.{joined_names}
use Rattle.implib.proofs.listing.joined_names.Given as goal

abbrev pub invariant-loop-row : goal.invariant-loop-row
invariant-loop-row l = l.names.items ≡ joined_names (take l.row-index l.rows)
