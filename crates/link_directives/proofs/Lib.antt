pub mod AlignmentLemmas
pub mod CallerLemmas
pub mod FirstLemmas
pub mod PassLemmas
