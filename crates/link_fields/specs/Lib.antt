pub mod Targets
pub mod Entry
pub mod ExportTargets
pub mod Pdata
pub mod LoaderPlaces
pub mod Fixes
pub mod Places
pub mod Steps
