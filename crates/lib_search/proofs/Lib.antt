pub mod SaidLemmas
mod WorkedResources
pub mod LibraryLemmas
pub mod InputLemmas
pub mod OpenedFileLemmas
pub mod ModuleLemmas
pub mod ListingLemmas
pub mod AlternateLemmas
pub mod FromLemmas
pub mod NextLemmas
pub mod PassedLemmas
pub mod WaitLemmas
pub mod JoinedLemmas
pub mod LoadingLemmas
pub mod GoneLemmas
pub mod EndLemmas
pub mod OneLoading
