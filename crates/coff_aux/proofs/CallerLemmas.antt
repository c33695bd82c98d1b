-- What callers may cite: where symbols start, what is kept of COMDAT sections, chains of parents, and the first fault.
pub use Rattle.coff_aux.proofs.StartLemmas.{starts_among, unmarked, any_more, still_none}
pub use Rattle.coff_aux.proofs.ComdatLemmas.{noted_count, noted_there, section_within, no_comdat, some_section}
pub use Rattle.coff_aux.proofs.RecordLemmas.{weak_stands, fault_by_records, no_comdat_fault, are_parents}
pub use Rattle.coff_aux.proofs.OrderLemmas.{in_order_fault}
pub use Rattle.coff_aux.proofs.ParentLemmas.{ancestor-within}
