-- The order of rows is total, and rows that tie are one.
use Rattle.std.proofs.Common.{◌≡◌, ◌+◌, false, List, get_or, Option, Some, refl, ap, ◌∙◌, rules}
use Rattle.std.specs.List.Sorted.{IsSorted, IsPermutation, IsNonDecreasingBy}
use Rattle.std.specs.Ordering.{is_lt, is_some_and, nat_cmp, ordering_then, partial_ordering_then}
use Rattle.std.specs.Cmp.{IsTotalOrder, Some-then}
use Rattle.std.specs.Cmp.Rules.{comparing}
use Rattle.std.specs.declared.cmp.Ordering.{Ordering}
use Rattle.std.specs.declared.cmp.Ordering.TheVariants.{Less, Equal, Greater}
use Rattle.std.proofs.lemmas.List.Sorted.{IsNonDecreasingBy-from_sort}
use Rattle.sorted_lists.specs.Order.{in_order}
use Rattle.sorted_lists.proofs.CallerLemmas.{is_in_order}
use Rattle.link_base.proofs.OrderingLemmas.{one_number, then_both}
use Rattle.pdata_table.specs.declared.row.Row.{Row}
use Rattle.pdata_table.specs.Rows.{row_cmp}

pub row_total : IsTotalOrder row_cmp
row_total = search (comparing, rules) depth 8

one_row : (a b : Row) → row_cmp a b ≡ Equal → a ≡ b
one_row a b e =
    let begin = then_both (nat_cmp a.begin b.begin) _ e in
    let end = then_both (nat_cmp a.end b.end) _ begin.1 in
    let first = one_number a.begin b.begin begin.0 in
    let second = one_number a.end b.end end.0 in
    let third = one_number a.unwind b.unwind end.1 in
    λ i. record { begin = first i; end = second i; unwind = third i }

-- `<` on rows is by the same order
pub less_is : (a b : Row) → is_some_and is_lt (partial_ordering_then (Some (nat_cmp a.begin b.begin)) (partial_ordering_then (Some (nat_cmp a.end b.end)) (Some (nat_cmp a.unwind b.unwind)))) ≡ is_lt (row_cmp a b)
less_is a b =
    ap (λ (o : Option Ordering). is_some_and is_lt (partial_ordering_then (Some (nat_cmp a.begin b.begin)) o)) (Some-then (nat_cmp a.end b.end) (nat_cmp a.unwind b.unwind))
    ∙ ap (is_some_and is_lt) (Some-then (nat_cmp a.begin b.begin) (ordering_then (nat_cmp a.end b.end) (nat_cmp a.unwind b.unwind)))

pub rows_in_order : (rows sorted : List Row) → IsPermutation rows sorted → IsSorted row_cmp sorted → sorted ≡ in_order row_cmp rows
rows_in_order rows sorted moved up = is_in_order row_cmp row_total one_row rows sorted moved up

-- ---- begin RVAs

not_less : (r s : Ordering) → is_lt (ordering_then r s) ≡ false → is_lt r ≡ false
not_less Less s e = e
not_less Equal s e = refl
not_less Greater s e = refl

pub begins_ascend : (rows : List Row) → IsSorted row_cmp rows → IsNonDecreasingBy (λ (row : Row). row.begin) rows
begins_ascend rows up =
    IsNonDecreasingBy-from_sort (λ (row : Row). row.begin) rows
    (λ k d low lt. not_less (nat_cmp (get_or rows (k + 1) d).begin (get_or rows k d).begin) _ (up k d low lt))
