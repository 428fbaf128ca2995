pub mod Halves
pub mod Journals
pub mod ReplayLaws
pub mod steps
