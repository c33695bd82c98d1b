pub mod ContributionLemmas
pub mod DatabaseLemmas
pub mod WorkedDatabase
