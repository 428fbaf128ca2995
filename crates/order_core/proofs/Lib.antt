pub mod DistinctLists
pub mod Turning
pub mod Orders
pub mod Paths
pub mod Marked
pub mod WaveLists
mod WaveSteps
