pub mod WorkedEntry
pub mod IdentifierLemmas
