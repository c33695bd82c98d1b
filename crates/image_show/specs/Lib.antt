pub mod SymbolPlace
pub mod ShownBytes
