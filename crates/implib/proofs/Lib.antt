pub mod SizeLemmas
pub mod OrderLemmas
pub mod ListingLemmas
pub mod LibraryLemmas
pub mod TextLemmas
pub mod ImportLemmas
pub mod DecimalLemmas
pub mod MemberLemmas
pub mod PlaceLemmas
pub mod SearchLemmas
pub mod DirectoryLemmas
pub mod ListedLemmas
pub mod WalkLemmas
pub mod OpenLemmas
pub mod Theorems
mod WorkedLibrary
mod WorkedLongName
