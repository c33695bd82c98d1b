-- What callers may cite: a root is kept, what a kept piece leads to is kept, and what is closed under both holds all that
-- is kept.
pub use Rattle.reach.proofs.PathLemmas.{root_kept, next_kept, of_kept}
