pub mod DebugDirectory
pub mod Identifier
