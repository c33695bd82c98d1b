pub mod FileNames
pub mod FoundFiles
pub mod InputFiles
pub mod Reading
pub mod DefaultLibraries
pub mod DefaultSteps
