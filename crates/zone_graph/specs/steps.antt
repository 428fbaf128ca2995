pub mod LinkLists
pub mod Attachments
pub mod Runs
pub mod Known
