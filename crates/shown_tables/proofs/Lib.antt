mod Sorting
mod TableEntries
pub mod InOrder
