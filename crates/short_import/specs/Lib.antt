pub mod Constants
pub mod Decoration
pub mod ShortImport
pub mod ImportFaults
