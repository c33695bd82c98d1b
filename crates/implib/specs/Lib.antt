pub mod Rows
pub mod ArchiveMember
pub mod RowMember
pub mod Listings
pub mod ImportLibrary
pub mod Sizes
pub mod ReadBack
