pub mod JudgeLemmas
pub mod TakenLemmas
pub mod PatchableLemmas
pub mod ValueLemmas
pub mod WriteLemmas
pub mod PatchLemmas
pub mod FindLemmas
pub mod ApartLemmas
pub mod PatchedLemmas
pub mod OrderLemmas
pub mod BaseLemmas
pub mod MovedLemmas
pub mod MovedBytes
pub mod RedirectLemmas
pub mod NumberLemmas
pub mod CallerLemmas
mod WorkedFields
pub mod PlaceLemmas
