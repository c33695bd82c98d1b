-- The table of the ascending list of a table's rows.
use Rattle.std.proofs.Common.{◌≡◌, ℕ, ◌+◌, ◌-◌, ◌/◌, ◌<◌, ◌≤◌, true, false, List, length, get_or, inl, inr, sym, ap, ◌∙◌, subst, arith}
use Rattle.std.specs.List.{All}
use Rattle.std.specs.List.Sorted.{IsSorted, IsSortedWithin, IsPermutation, IsNonDecreasingBy}
use Rattle.std.specs.Ordering.{is_lt}
use Rattle.std.proofs.lemmas.Bool.{true≢false, cases_lt}
use Rattle.std.proofs.lemmas.List.Sorted.{All-permutation, IsPermutation-refl, length_permutation}
use Rattle.sorted_lists.specs.Order.{in_order}
use Rattle.sorted_lists.proofs.CallerLemmas.{order_permutes, order_sorted}
use Rattle.pdata_table.specs.declared.row.Row.{Row}
use Rattle.pdata_table.specs.Rows.{HasWholeRows, row_at, rows_of, row_cmp, table_of, AreSortedRows, sorted_table}
use Rattle.pdata_table.proofs.RowLemmas.{Fits, HaveBytes, have_bytes, length_table, small_table, length_rows_of, row_of_index, rows_fit, rows_back, table_back}
use Rattle.pdata_table.proofs.OrderLemmas.{row_total, rows_in_order, begins_ascend}

-- ---- the rows of a sorted table

rows_are : (table : List ℕ) → HaveBytes table → rows_of (sorted_table table) ≡ in_order row_cmp (rows_of table)
unfolding sorted_table
rows_are table small =
    rows_back (in_order row_cmp (rows_of table)) (All-permutation Fits (rows_of table) (in_order row_cmp (rows_of table)) (order_permutes row_cmp (rows_of table)) (rows_fit table small))

pub rows_sorted : (table : List ℕ) → All (λ byte. byte < 256) table → AreSortedRows (rows_of table) (rows_of (sorted_table table))
rows_sorted table small =
    subst (AreSortedRows (rows_of table)) (sym (rows_are table (have_bytes table small)))
    (record { same_rows = order_permutes row_cmp (rows_of table); ascend = order_sorted row_cmp row_total (rows_of table) })

pub begins_sorted : (table : List ℕ) → All (λ byte. byte < 256) table → IsNonDecreasingBy (λ (row : Row). row.begin) (rows_of (sorted_table table))
begins_sorted table small = begins_ascend (rows_of (sorted_table table)) (rows_sorted table small).ascend

pub length_sorted : (table : List ℕ) → HasWholeRows table → length (sorted_table table) ≡ length table
unfolding sorted_table
length_sorted table whole =
    let rows = rows_of table in
    let long = length_table (in_order row_cmp rows) in
    let same = length_permutation rows (in_order row_cmp rows) (order_permutes row_cmp rows) in
    let count = length_rows_of table in
    omega (arith, whole, long, same, count)

pub sorted_small : (table : List ℕ) → All (λ byte. byte < 256) (sorted_table table)
unfolding sorted_table
sorted_small table = small_table (in_order row_cmp (rows_of table))

-- ---- there is one

pub sorted_is : (table : List ℕ) (rows : List Row) → IsPermutation (rows_of table) rows → IsSorted row_cmp rows → table_of rows ≡ sorted_table table
unfolding sorted_table
sorted_is table rows moved up = ap table_of (rows_in_order (rows_of table) rows moved up)

pub sorted_table_is : (table other : List ℕ) → All (λ byte. byte < 256) other → HasWholeRows other → AreSortedRows (rows_of table) (rows_of other) → other ≡ sorted_table table
sorted_table_is table other small whole sorted =
    sym (table_back other (have_bytes other small) whole) ∙ sorted_is table (rows_of other) sorted.same_rows sorted.ascend

-- a table that ascends stays as it is
pub sorted_stays : (table : List ℕ) → HaveBytes table → HasWholeRows table → IsSorted row_cmp (rows_of table) → table ≡ sorted_table table
sorted_stays table small whole up =
    sym (table_back table small whole) ∙ sorted_is table (rows_of table) (IsPermutation-refl (rows_of table)) up

-- a sorted table ascends
pub ascends : (table : List ℕ) → HaveBytes table → table ≡ sorted_table table → IsSorted row_cmp (rows_of table)
ascends table small is =
    subst (IsSorted row_cmp) (sym (ap rows_of is ∙ rows_are table small)) (order_sorted row_cmp row_total (rows_of table))

-- ---- a table that is read row by row

-- the rows before an index ascend
abbrev pub AscendUpTo : List ℕ → ℕ → Type 0
AscendUpTo table index = IsSortedWithin (λ a b. is_lt (row_cmp a b)) (rows_of table) 0 index

module _ (table : List ℕ) (index : ℕ) (row last : Row) (first : 1 ≤ index) (inside : index < length table / 12)
    (is_row : row ≡ row_at table index) (is_last : last ≡ row_at table (index - 1)) where
  read : (k : ℕ) (d : Row) → k + 1 ≡ index → is_lt (row_cmp (get_or (rows_of table) (k + 1) d) (get_or (rows_of table) k d)) ≡ is_lt (row_cmp row last)
  read k d is =
      let at : k + 1 < length table / 12 = omega (arith, is, inside) in
      let before : k ≡ index - 1 = omega (arith, is) in
      ap (λ (r : Row). is_lt (row_cmp r (get_or (rows_of table) k d))) (row_of_index table (k + 1) d at ∙ ap (row_at table) is ∙ sym is_row)
      ∙ ap (λ (r : Row). is_lt (row_cmp row r)) (row_of_index table k d (omega (arith, at)) ∙ ap (row_at table) before ∙ sym is_last)

  pub ascend_more : is_lt (row_cmp row last) ≡ false → AscendUpTo table index → AscendUpTo table (index + 1)
  ascend_more behind up k d low lt =
      elim (cases_lt (k + 1) index) [
        | inl below ↦ up k d low below
        | inr above ↦ read k d (omega (arith, lt, above)) ∙ behind
      ]

  pub descends : is_lt (row_cmp row last) ≡ true → HaveBytes table → table ≡ sorted_table table → ⊥
  descends below small is =
      let count = length_rows_of table in
      let up = ascends table small is (index - 1) row (omega arith) (omega (arith, first, inside, count)) in
      true≢false (sym below ∙ sym (read (index - 1) row (omega (arith, first))) ∙ up)
