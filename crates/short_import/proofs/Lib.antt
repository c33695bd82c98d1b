pub mod WholeLemmas
pub mod SpanLemmas
pub mod CallerLemmas
mod WorkedImport
