pub mod LineFacts
pub mod WordFacts
pub mod NumberFacts
pub mod TextSteps
