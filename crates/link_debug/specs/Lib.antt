pub mod LinkDebug
