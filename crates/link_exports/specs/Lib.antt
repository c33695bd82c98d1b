pub mod Exports
pub mod Steps
