mod TargetLemmas
mod FixLemmas
mod JudgeLemmas
pub mod CallerLemmas
pub mod EntryLemmas
pub mod StandingLemmas
pub mod ListLemmas
pub mod PdataLemmas
pub mod EdgeLemmas
