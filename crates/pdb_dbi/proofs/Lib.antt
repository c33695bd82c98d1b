pub mod RangeLemmas
pub mod ModuleLemmas
pub mod SizeLemmas
pub mod ReadingLemmas
pub mod FieldLemmas
pub mod LawLemmas
pub mod CallerLemmas
mod WorkedStream
