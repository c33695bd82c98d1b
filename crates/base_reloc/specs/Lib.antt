pub mod Blocks
pub mod PageBlocks
pub mod Raising
