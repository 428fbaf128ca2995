pub mod Waiting
pub mod Cursors
pub mod Leaves
pub mod Steps
