use Rattle.std.proofs.Common.{◌≡◌, ◌++◌, take}
use Rattle.std.specs.List.{flat_map}
use Rattle.link_base.specs.Bytes.{number_bytes}
use Rattle.implib.proofs.directories.push_listed_members.Given as goal

abbrev pub invariant-loop-listing : goal.invariant-loop-listing
invariant-loop-listing l =
    l.out.items ≡ l.fn.out.items ++ flat_map (λ listing. number_bytes 2 listing.member) (take l.listing-index l.listings)
