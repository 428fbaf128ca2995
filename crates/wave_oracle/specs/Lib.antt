pub mod Oracles
pub mod Nights
pub mod steps
pub mod PlannedTexts
pub mod Chains
pub mod ReadingBack
