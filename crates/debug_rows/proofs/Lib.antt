pub mod ListLemmas
pub mod KeyLemmas
pub mod BareLemmas
pub mod SectionLemmas
pub mod WorkedRows
