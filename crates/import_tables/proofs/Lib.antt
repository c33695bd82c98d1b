pub mod WalkLemmas
mod WorkedImports
pub mod DllLemmas
pub mod TallyLemmas
pub mod SlotLemmas
mod WorkedShapes
mod WorkedTables
pub mod ApartLemmas
pub mod EntryLemmas
pub mod FillLemmas
pub mod DirectoryLemmas
pub mod SizeLemmas
pub mod HeldLemmas
pub mod ReadBackLemmas
pub mod DirectoryReadLemmas
pub mod FoundLemmas
