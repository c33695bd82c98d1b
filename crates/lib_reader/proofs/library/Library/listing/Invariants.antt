use Rattle.std.proofs.Common.{◌≡◌, drop}
use Rattle.lib_reader.specs.LibraryWalk.{listing_of}
use Rattle.lib_reader.proofs.library.Library.listing.Given as goal

abbrev pub invariant-loop : goal.invariant-loop
invariant-loop l = l.listings ≡ drop l.counter (listing_of l.self)
