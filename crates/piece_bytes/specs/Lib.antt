pub mod Owners
pub mod PieceBytes
pub mod Extents
