pub mod LoadedImage
pub mod Extents
pub mod Copying
pub mod Loading
