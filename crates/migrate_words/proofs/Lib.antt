mod RowFacts
mod LineFacts
mod Entries
mod ReadingFacts
mod FullRows
mod TakenWalk
mod BuiltLines
mod PlainRows
mod PlainWalk
mod Entering
pub mod TakenLaws
pub mod Ranges
pub mod OneCommand
pub mod PlainLaws
mod AnswerFacts
