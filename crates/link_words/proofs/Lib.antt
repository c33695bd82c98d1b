pub mod OptLemmas
pub mod ExtensionLemmas
pub mod SettingLemmas
pub mod WordLemmas
pub mod LinkLemmas
mod WorkedWords
