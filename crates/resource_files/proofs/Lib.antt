pub mod FileLemmas
pub mod ResourceLemmas
pub mod SaidLemmas
pub mod MergeLemmas
pub mod KeyLemmas
pub mod KeptLemmas
pub mod WorkedResourceFiles
