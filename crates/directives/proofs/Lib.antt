pub mod NameLemmas
pub mod NumberLemmas
pub mod PlaceLemmas
pub mod PlainLemmas
pub mod AttributeLemmas
pub mod TextLemmas
pub mod WordLemmas
pub mod WalkLemmas
mod WorkedDirectives
