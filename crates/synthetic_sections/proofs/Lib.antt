pub mod NameLemmas
pub mod PieceLemmas
mod WorkedPieces
