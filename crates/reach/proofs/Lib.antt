pub mod PathLemmas
pub mod CallerLemmas
pub mod CountLemmas
pub mod RowLemmas
pub mod MarkingLemmas
pub mod LiveLemmas
mod WorkedPaths
