pub mod PortLists
pub mod Sharing
pub mod RouterLists
pub mod Partners
pub mod Subnets
pub mod Reached
pub mod Kept
