mod Chains
mod Numbered
mod AreaFacts
mod TargetFacts
mod QuoteFacts
pub mod OnePicture
mod WaveCounts
