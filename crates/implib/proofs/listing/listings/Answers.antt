use Rattle.std.proofs.Common.{◌+◌, ◌∙◌, arith}
use Rattle.implib.proofs.ListingLemmas.{size_left, names_left, names_first, listings_made, listings_all}
use Rattle.implib.proofs.listing.listings.Goals as goal

pub push_listings-requires-clause-names : goal.push_listings-requires-clause-names
push_listings-requires-clause-names c =
    names_first c.args.rows.now c.loop-row.row-index c.row-item.result c.loop-row.rest.now c.loop-row-test.true c.row-item.is c.loop-row.invariant.left

pub loop-row-preserved : goal.loop-row-preserved
loop-row-preserved c = record {
  made =
      listings_made c.args.dll.now c.args.rows.now c.loop-row.row-index (c.loop-row.member + 1) c.loop-row.header c.row_size.result c.row-item.result c.loop-row.found.items c.push_listings.new.found.items _ c.loop-row-test.true c.row-item.is c.row_size.ensures.size c.in_ok-rest.ensures.listings c.loop-row.invariant.made;
  left = c.in_ok-rest.ensures.rest ∙ names_left c.args.rows.now c.loop-row.row-index c.row-item.result c.loop-row.rest.now c.loop-row-test.true c.row-item.is c.loop-row.invariant.left;
  numbered = omega (arith, c.loop-row.invariant.numbered);
  fits = omega (arith, c.loop-row.invariant.fits, size_left c.args.dll.now c.args.rows.now c.loop-row.row-index c.row_size.result c.row-item.result c.loop-row-test.true c.row-item.is c.row_size.ensures.size);
}

pub returns : goal.returns
returns c = listings_all c.args.dll.now c.args.rows.now c.loop-row.row-index (c.loop-row.member + 1) c.loop-row.header c.loop-row.found.items _ (omega (arith, c.loop-row-test.false)) c.loop-row.invariant.made
