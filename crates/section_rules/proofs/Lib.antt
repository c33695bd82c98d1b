pub mod BaseNameLemmas
pub mod SoughtLemmas
