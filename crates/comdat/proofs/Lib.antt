pub mod GreatestLemmas
pub mod ChoiceLemmas
pub mod CallerLemmas
pub mod EntryLemmas
pub mod NumberingLemmas
pub mod NotedLemmas
pub mod ListLemmas
pub mod GroupLemmas
pub mod FirstLemmas
pub mod ApartLemmas
pub mod ChainLemmas
pub mod RowLemmas
pub mod PlainLemmas
pub mod OpenedLemmas
pub mod RowEndLemmas
pub mod OrderLemmas
mod WorkedGroups
