pub mod LinkEnds
