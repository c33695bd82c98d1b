pub mod ImageTests
pub mod OneImage
pub mod FaultLemmas
pub mod CopyLemmas
pub mod RaiseLemmas
pub mod ExtentLemmas
pub mod StandLemmas
pub mod CallerLemmas
