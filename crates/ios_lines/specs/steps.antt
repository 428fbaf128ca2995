pub mod WordEnds
pub mod Octets
