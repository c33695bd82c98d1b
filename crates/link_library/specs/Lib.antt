pub mod LinkLibrary
