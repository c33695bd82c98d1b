-- What callers may cite: what the rows, the length and the bytes of a sorted table are, and that there is one.
pub use Rattle.pdata_table.proofs.TableLemmas.{rows_sorted, begins_sorted, length_sorted, sorted_small, sorted_table_is, sorted_stays}
pub use Rattle.pdata_table.proofs.PartLemmas.{ArePieces, dealt, length-dealt, dealt_same, sum_same, length-joined, length-sorted, length-sorted_at, sorted_beside, dealt_sorted, none_sorted, sorted_table_len, sorted_agree, rows_together}
