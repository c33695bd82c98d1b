pub mod OutcomeLemmas
pub mod StepLemmas
pub mod LeftLemmas
pub mod RunLemmas
mod WorkedLink
pub mod ShownLemmas
pub mod GenWordLemmas
pub mod GeneratedLemmas
