pub mod LinkerPieces
pub mod LinkerFields
