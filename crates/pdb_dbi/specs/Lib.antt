pub mod Contribution
pub mod ModuleInfo
pub mod SectionMap
pub mod DbiStream
pub mod DbiReading
pub mod FixedStreams
