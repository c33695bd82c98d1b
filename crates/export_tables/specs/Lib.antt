pub mod ExportDirectory
pub mod ExportTable
pub mod Ordinals
pub mod Hints
pub mod NameOrder
pub mod ReadBack
