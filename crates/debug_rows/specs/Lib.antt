pub mod Contributions
pub mod ModuleNames
pub mod MapLists
pub mod MapPieces
pub mod Publics
pub mod KeptPublics
pub mod PlacedPublics
pub mod ImageMap
