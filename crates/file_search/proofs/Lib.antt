pub mod FindLemmas
pub mod ReadLemmas
pub mod NotedLemmas
pub mod DefaultLemmas
