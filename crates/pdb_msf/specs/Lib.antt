pub mod BlockFile
pub mod Streams
pub mod WrittenFile
