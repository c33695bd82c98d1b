-- What callers may cite: the size of a written stream, and what is read of it.
pub use Rattle.pdb_dbi.proofs.SizeLemmas.{length_dbi}
pub use Rattle.pdb_dbi.proofs.LawLemmas.{stream_read}
