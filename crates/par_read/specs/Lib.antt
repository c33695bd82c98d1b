pub mod Joining
pub mod Opened
pub mod Parts
