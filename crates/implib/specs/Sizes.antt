-- What the sizes of an import library are, as they are computed once. Own.
use Rattle.std.specs.Prelude.{◌≡◌, ◌≤◌, ◌*◌, ℕ, List, length, sum_by}
use Rattle.implib.specs.declared.row.LibraryRow.{LibraryRow}
use Rattle.implib.specs.declared.sizes.Totals.{Totals}
use Rattle.implib.specs.declared.sizes.Sizes.{Sizes}
use Rattle.implib.specs.Listings.{row_size}
use Rattle.implib.specs.ImportLibrary.{listing_count, names_size, first_size, second_size, rows_place, library_size}

-- the sums over some rows
pub record AreTotals (rows : List LibraryRow) (dll : List ℕ) (totals : Totals) : Type 0 where
  pub listings : totals.listings ≡ listing_count rows
  pub names : totals.names ≡ names_size rows
  pub members : totals.members ≡ sum_by (row_size dll) rows
  pub few : totals.listings ≤ 2 * length rows
  pub short : totals.names ≤ 64008 * length rows
  pub small : totals.members ≤ 64087 * length rows

pub record AreSizes (rows : List LibraryRow) (dll : List ℕ) (sizes : Sizes) : Type 0 where
  pub first : sizes.first ≡ first_size rows
  pub second : sizes.second ≡ second_size rows
  pub rows_place : sizes.rows_place ≡ rows_place rows dll
  pub library : sizes.library ≡ library_size rows dll
