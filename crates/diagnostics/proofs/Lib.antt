pub mod LineLemmas
mod WorkedLines
