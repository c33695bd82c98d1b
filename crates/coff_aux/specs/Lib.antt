pub mod AuxRecords
pub mod Comdats
pub mod Parents
pub mod AuxFaults
pub mod Steps
