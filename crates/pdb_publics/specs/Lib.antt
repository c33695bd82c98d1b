pub mod NameHash
pub mod PublicOrder
pub mod Fronts
pub mod PublicStreams
pub mod Lookup
pub mod WrittenPublics
