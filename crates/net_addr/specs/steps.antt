pub mod Matches
pub mod Octets
