-- What callers may cite: that an input has one folding, and that what is alike under a relation is so under one that holds it.
pub use Rattle.icf.proofs.OneLemmas.{alike_more, one_folding}
