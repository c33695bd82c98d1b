-- The rows of an exception table, and the table with its rows in order (PE Format, "The .pdata Section", for x64).
use Rattle.std.specs.Prelude.{◌≡◌, ℕ, ◌+◌, ◌*◌, ◌/◌, ◌%◌, List, [], ◌∷◌, length, map, IsPermutation, IsSorted}
use Rattle.std.specs.List.{flat_map, range_with_len}
use Rattle.std.specs.Ordering.{nat_cmp, then_cmp, on}
use Rattle.std.specs.declared.cmp.Ordering.{Ordering}
use Rattle.link_base.specs.Bytes.{u32_at, number_bytes}
use Rattle.sorted_lists.specs.Order.{in_order}
use Rattle.pdata_table.specs.declared.row.Row.{Row}

-- ---- the rows of a table

-- the bytes of a row
abbrev pub ROW_SIZE : ℕ
ROW_SIZE = 12

-- no bytes are left behind the last row
abbrev pub HasWholeRows : List ℕ → Type 0
HasWholeRows table = length table % ROW_SIZE ≡ 0

-- the bytes are those of as many rows
abbrev pub HasRows : List ℕ → List Row → Type 0
HasRows table rows = length table ≡ ROW_SIZE * length rows

-- the row of an index: the begin RVA, the end RVA and the RVA of the unwind information, four bytes each
abbrev pub row_at : List ℕ → ℕ → Row
row_at table index = record {
  begin = u32_at table (ROW_SIZE * index);
  end = u32_at table (ROW_SIZE * index + 4);
  unwind = u32_at table (ROW_SIZE * index + 8);
}

unfoldable pub rows_of : List ℕ → List Row
rows_of table = map (row_at table) (range_with_len 0 (length table / ROW_SIZE))

-- ---- the table of rows

unfoldable pub row_bytes : Row → List ℕ
row_bytes row = flat_map (number_bytes 4) (row.begin ∷ row.end ∷ row.unwind ∷ [])

abbrev pub table_of : List Row → List ℕ
table_of rows = flat_map row_bytes rows

-- ---- rows in order

-- by the begin RVA, where these are equal by the end RVA, and where these are by that of the unwind information
abbrev pub row_cmp : Row → Row → Ordering
row_cmp =
    then_cmp (on (λ row. row.begin) nat_cmp)
    (then_cmp (on (λ row. row.end) nat_cmp)
    (on (λ row. row.unwind) nat_cmp))

-- the ascending list of some rows: it has each of them as often, and none comes before the one before it
pub record AreSortedRows (rows sorted : List Row) : Type 0 where
  pub same_rows : IsPermutation rows sorted
  pub ascend : IsSorted row_cmp sorted

-- the table of the ascending list of a table's rows
unfoldable pub sorted_table : List ℕ → List ℕ
sorted_table table = table_of (in_order row_cmp (rows_of table))
