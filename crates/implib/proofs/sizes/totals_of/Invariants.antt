use Rattle.std.proofs.Common.{◌≡◌, ◌≤◌, ◌*◌, take}
use Rattle.std.specs.Prelude.{sum_by}
use Rattle.implib.specs.Listings.{row_size}
use Rattle.implib.specs.ImportLibrary.{listing_count, names_size}
use Rattle.implib.proofs.sizes.totals_of.Given as goal

abbrev pub invariant-loop-row : goal.invariant-loop-row
invariant-loop-row l = record {
  listings : l.listings ≡ listing_count (take l.row-index l.rows);
  names : l.names ≡ names_size (take l.row-index l.rows);
  members : l.members ≡ sum_by (row_size l.dll) (take l.row-index l.rows);
  few : l.listings ≤ 2 * l.row-index;
  short : l.names ≤ 64008 * l.row-index;
  small : l.members ≤ 64087 * l.row-index;
}
