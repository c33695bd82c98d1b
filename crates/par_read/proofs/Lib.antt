pub mod OpenedLemmas
pub mod PartLemmas
