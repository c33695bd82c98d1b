pub mod Places
pub mod Layout
pub mod Rounded
pub mod PermittedBase
pub mod Growth
