pub mod PdbFile
pub mod UsedBuckets
