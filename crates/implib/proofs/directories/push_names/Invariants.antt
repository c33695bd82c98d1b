use Rattle.std.proofs.Common.{◌≡◌, ◌++◌, take}
use Rattle.implib.specs.Listings.{listed_names}
use Rattle.implib.proofs.directories.push_names.Given as goal

abbrev pub invariant-loop-listing : goal.invariant-loop-listing
invariant-loop-listing l = l.out.items ≡ l.fn.out.items ++ listed_names (take l.listing-index l.listings)
