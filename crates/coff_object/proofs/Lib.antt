pub mod LoopLemmas
pub mod NumberLemmas
pub mod RecordLemmas
pub mod WellFormedLemmas
pub mod StartLemmas
pub mod Readable
pub mod LongTextLemmas
pub mod CallerLemmas
mod WorkedObjects
pub mod FormLemmas
