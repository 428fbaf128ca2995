pub mod Parts
pub mod Differences
pub mod ShownPhases
pub mod ToldStates
pub mod ObservedTexts
pub mod ObservedLaws
pub mod steps
