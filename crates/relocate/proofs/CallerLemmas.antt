-- What callers may cite: the bytes of a section and the first value that does not fit, by relocations in any order and at
-- any base; relocations whose targets are given other places.
pub use Rattle.relocate.proofs.OrderLemmas.{bytes_in_any_order, range_in_any_order, no_range_in_any_order}
pub use Rattle.relocate.proofs.BaseLemmas.{judged_suited, patchable_suits, fields_suited, value_stays, value_moves, fits_stays, bytes_stay, range_stays, no_range_stays, length_patched, nothing_patched}
pub use Rattle.relocate.proofs.MovedLemmas.{ends_within, based_width, number_patched, field_moved, byte_stays}
pub use Rattle.relocate.proofs.OrderLemmas.{field_among, among_fields}
pub use Rattle.relocate.proofs.MovedBytes.{bytes_moved}
pub use Rattle.relocate.proofs.RedirectLemmas.{field_redirected, based_redirected, numbered_redirected, suited_redirected, fields_redirected, patchable_redirected}
