mod Ascending
mod Repeats
pub mod Collected
mod Gained
mod Unseen
pub mod ClassLaws
pub mod ClassFacts
pub mod LongestSteps
pub mod NumberSteps
mod CutSteps
pub mod Occurrences
mod PickSteps
pub mod NestedLaws
pub mod Pushed
