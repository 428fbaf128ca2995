pub mod Lists
pub mod Chains
pub mod Moves
pub mod steps
