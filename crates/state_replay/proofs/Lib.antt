pub mod Fronts
pub mod Counting
pub mod NextChanges
pub mod Lines
pub mod Takings
pub mod Places
