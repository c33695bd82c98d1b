pub mod NotedLemmas
pub mod NumberLemmas
pub mod RecordLemmas
pub mod RestLemmas
pub mod DotLemmas
