pub mod HeaderTable
pub mod ExpectedImage
pub mod LoadablePlan
pub mod WrittenImage
pub mod RawData
pub mod PieceInFile
pub mod MovedContents
