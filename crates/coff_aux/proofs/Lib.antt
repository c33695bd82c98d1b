pub mod CallerLemmas
pub mod StartLemmas
pub mod ComdatLemmas
pub mod ParentLemmas
pub mod RecordLemmas
pub mod OrderLemmas
