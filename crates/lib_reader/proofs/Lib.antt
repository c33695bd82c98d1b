pub mod HeaderLemmas
pub mod TableLemmas
pub mod TextsLemmas
pub mod ListingLemmas
pub mod WalkLemmas
pub mod EndLemmas
pub mod StartLemmas
mod WorkedLibrary
pub mod CallerLemmas
