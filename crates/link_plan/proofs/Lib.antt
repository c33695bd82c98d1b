pub mod StageLemmas
pub mod PlacedLemmas
pub mod CallerLemmas
pub mod EntryLemmas
pub mod ReferenceLemmas
pub mod SlotLemmas
pub mod MadeLemmas
pub mod NearLemmas
pub mod LaidLemmas
pub mod PublicLemmas
pub mod PlanningLemmas
mod StandingNameLemmas
