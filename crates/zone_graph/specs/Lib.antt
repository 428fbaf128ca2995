pub mod Segments
pub mod Walks
pub mod KnownWalks
pub mod steps
