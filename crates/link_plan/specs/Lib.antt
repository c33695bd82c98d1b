pub mod References
pub mod PlanFaults
pub mod Planned
pub mod Laid
pub mod LinkPublics
pub mod Plan
pub mod Planning
