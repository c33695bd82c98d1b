pub mod PlaceLemmas
pub mod PartLemmas
pub mod JobLemmas
pub mod AnswerLemmas
pub mod SliceLemmas
pub mod Theorems
pub mod TestLemmas
pub mod CallerLemmas
