pub mod Imports
pub mod ImportPieces
pub mod Steps
