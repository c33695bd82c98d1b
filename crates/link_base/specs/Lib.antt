pub mod Bytes
pub mod Fields
pub mod Decimal
pub mod NameText
pub mod SectionName
pub mod PeFormat
pub mod Limits
pub mod Refusals
