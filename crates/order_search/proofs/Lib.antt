pub mod Fills
pub mod FreshPairs
pub mod Turned
mod LeafFacts
mod CursorFacts
mod RankFacts
pub mod SameMeanings
mod SearchSteps
pub mod TreeRefutes
pub mod OneAnswer
pub mod RisingPairs
