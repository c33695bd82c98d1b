pub mod StandingLemmas
pub mod RootLemmas
pub mod KeepLemmas
pub mod MeantLemmas
pub mod NamedLemmas
pub mod CallerLemmas
