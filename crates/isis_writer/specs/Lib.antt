pub mod ReadTexts
pub mod RouterLines
pub mod Prepared
pub mod PreparedConfigurations
pub mod Deltas
