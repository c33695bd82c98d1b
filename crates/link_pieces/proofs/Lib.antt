pub mod NamedLemmas
pub mod CommonLemmas
pub mod PieceLemmas
pub mod CallerLemmas
pub mod IndexLemmas
mod SlotLemmas
pub mod StandLemmas
pub mod LinkerLemmas
pub mod TableLemmas
mod LinkerRowLemmas
