pub mod GeneratedObject
pub mod GeneratedWorld
