-- What callers may cite.
pub use Rattle.piece_bytes.proofs.PieceLemmas.{drop_end}
