pub mod OwnerLemmas
pub mod PieceLemmas
pub mod CallerLemmas
