pub mod RowLemmas
pub mod OrderLemmas
pub mod TableLemmas
pub mod WorkedTables
pub mod PartLemmas
pub mod CallerLemmas
