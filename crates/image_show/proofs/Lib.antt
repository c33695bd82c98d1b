pub mod LoadLemmas
pub mod PlaceLemmas
pub mod WorkedShown
