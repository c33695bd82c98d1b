use Rattle.std.proofs.Common.{◌≡◌, ◌<◌, ◌+◌, ◌^◌, ◌++◌, drop}
use Rattle.std.specs.Prelude.{sum_by}
use Rattle.implib.specs.Listings.{row_size, joined_names, listings_from}
use Rattle.implib.proofs.listing.listings.Given as goal

abbrev pub invariant-loop-row : goal.invariant-loop-row
invariant-loop-row l = record {
  made : l.found.items ++ listings_from l.dll (l.member + 1) l.header (drop l.row-index l.rows) ≡ listings_from l.dll 1 l.start l.rows;
  left : l.rest ≡ joined_names (drop l.row-index l.rows);
  numbered : l.member ≡ l.row-index;
  fits : l.header + sum_by (row_size l.dll) (drop l.row-index l.rows) < 2 ^ 32;
}
