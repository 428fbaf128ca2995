pub mod Splices
pub mod Undoing
