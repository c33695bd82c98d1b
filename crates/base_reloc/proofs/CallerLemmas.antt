-- What callers may cite: what a table lists, and what raising fields leaves of a memory.
pub use Rattle.base_reloc.proofs.TableLemmas.{table_lists}
pub use Rattle.base_reloc.proofs.RaisedLemmas.{length-raised, raised_outside, raised_holds, length_raised_all, raised_elsewhere, raised_each}
pub use Rattle.base_reloc.proofs.RaiseNothing.{HaveBytes, have_bytes, walk_raises_nothing}
pub use Rattle.base_reloc.proofs.SettledLemmas.{raised_is}
pub use Rattle.base_reloc.proofs.RaisedBytes.{raised_bytes, raised_by_bytes}
