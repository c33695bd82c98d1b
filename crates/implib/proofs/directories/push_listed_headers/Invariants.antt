use Rattle.std.proofs.Common.{◌≡◌, ◌++◌, take}
use Rattle.std.specs.List.{flat_map}
use Rattle.byteorder.specs.Endian.{big_bytes}
use Rattle.implib.proofs.directories.push_listed_headers.Given as goal

abbrev pub invariant-loop-listing : goal.invariant-loop-listing
invariant-loop-listing l =
    l.out.items ≡ l.fn.out.items ++ flat_map (λ listing. big_bytes 4 listing.header) (take l.listing-index l.listings)
