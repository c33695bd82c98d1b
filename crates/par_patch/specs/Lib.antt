pub mod PatchedJobs
pub mod LeastRange
pub mod Parts
pub mod Slices
