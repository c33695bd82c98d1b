pub mod LinkDirectives
pub mod Alignments
pub mod Passes
