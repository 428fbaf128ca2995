pub mod LineSteps
pub mod Reading
pub mod Seen
