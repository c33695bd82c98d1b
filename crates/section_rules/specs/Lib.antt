pub mod PlacedSection
pub mod SoughtNames
