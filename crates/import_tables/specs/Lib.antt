pub mod Constants
pub mod ImportDirectory
pub mod ImportShape
pub mod ImportTables
pub mod ReadBack
pub mod Tallies
