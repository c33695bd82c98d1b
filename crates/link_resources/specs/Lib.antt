pub mod LinkResources
