pub mod SortLemmas
pub mod CallerLemmas
mod WorkedLists
