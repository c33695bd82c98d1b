-- What callers may cite: that the order of a list has its items and ascends, that it is the only one where items that tie are
-- one, and what is sorted when a list has another item in front.
pub use Rattle.sorted_lists.proofs.SortLemmas.{inserted_permutes, order_permutes, sorted_cons, sorted_first, sorted_tail, inserted_sorted, order_sorted, is_order_of_sums, is_in_order}
