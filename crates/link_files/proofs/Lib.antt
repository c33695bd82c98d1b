pub mod StoreLemmas
pub mod CallerLemmas
pub mod HostLemmas
pub mod OutputLemmas
