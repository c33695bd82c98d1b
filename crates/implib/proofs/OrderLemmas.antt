-- The order of listings: it is total, and listings that tie are one.
use Rattle.std.proofs.Common.{◌≡◌, List, rules}
use Rattle.std.specs.List.Sorted.{IsSorted, IsPermutation}
use Rattle.std.specs.Ordering.{nat_cmp}
use Rattle.std.specs.Cmp.{IsTotalOrder}
use Rattle.std.specs.Cmp.Lexicographic.{slice_cmp}
use Rattle.std.specs.Cmp.Rules.{comparing}
use Rattle.std.specs.declared.cmp.Ordering.TheVariants.{Equal}
use Rattle.sorted_lists.proofs.CallerLemmas.{is_in_order}
use Rattle.link_base.proofs.OrderingLemmas.{one_number, then_both, one_text}
use Rattle.implib.specs.declared.listing.Listing.{Listing}
use Rattle.implib.specs.Listings.{listing_cmp, by_name}

pub listing_total : IsTotalOrder listing_cmp
listing_total = search (comparing, rules) depth 8

pub one_listing : (a b : Listing) → listing_cmp a b ≡ Equal → a ≡ b
one_listing a b e =
    let name = then_both (slice_cmp nat_cmp a.name b.name) _ e in
    let member = then_both (nat_cmp a.member b.member) _ name.1 in
    let n = one_text a.name b.name name.0 in
    let m = one_number a.member b.member member.0 in
    let h = one_number a.header b.header member.1 in
    λ i. record { name = n i; member = m i; header = h i }

pub listings_one_order : (listings sorted : List Listing) → IsPermutation listings sorted → IsSorted listing_cmp sorted → sorted ≡ by_name listings
listings_one_order listings sorted moved up = is_in_order listing_cmp listing_total one_listing listings sorted moved up
