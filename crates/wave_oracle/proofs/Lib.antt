mod Told
mod EndStates
mod FilledTimes
pub mod NightLaws
mod PlanNight
pub mod ChangeRankings
pub mod TreeNodes
pub mod TreesAsTexts
pub mod WavesAsTexts
pub mod ReadBack
