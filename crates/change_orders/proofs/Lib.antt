pub mod ItemFacts
pub mod FoundItems
pub mod TakenWaves
pub mod TakenLines
pub mod ReadTexts
pub mod TwoFileLaws
pub mod TwoTextFacts
