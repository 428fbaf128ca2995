pub mod LinkFacts
pub mod DownFacts
