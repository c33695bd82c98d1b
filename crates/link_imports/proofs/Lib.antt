pub mod RowLemmas
mod WorkedImports
pub mod CallerLemmas
pub mod SlotLemmas
