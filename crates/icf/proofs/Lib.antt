pub mod SectionLemmas
pub mod ListLemmas
pub mod FirstLemmas
pub mod OwnerLemmas
pub mod GatherLemmas
pub mod ContentLemmas
pub mod EqualLemmas
pub mod RoundLemmas
pub mod OrderLemmas
pub mod AgreeLemmas
pub mod AlikeLemmas
pub mod OneLemmas
pub mod CallerLemmas
mod WorkedFolding
