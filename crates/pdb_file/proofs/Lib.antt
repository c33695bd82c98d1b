pub mod PartedLemmas
pub mod UsedLemmas
pub mod SizeLemmas
