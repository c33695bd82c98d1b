pub mod Paths
pub mod Rows
pub mod Marking
