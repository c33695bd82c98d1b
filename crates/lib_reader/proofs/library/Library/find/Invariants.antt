use Rattle.std.proofs.Common.{◌≡◌}
use Rattle.lib_reader.specs.Listing.{first_of_name}
use Rattle.lib_reader.specs.LibraryWalk.{listing_of}
use Rattle.lib_reader.proofs.library.Library.find.Given as goal

abbrev pub invariant-loop-listed : goal.invariant-loop-listed
invariant-loop-listed l = record {
  can : (goal.iterator-loop-listed).can_next l.listings;
  ends : (goal.iterator-loop-listed).is_finite l.listings;
  first : first_of_name l.name (listing_of l.self) ≡ first_of_name l.name l.listings;
}
