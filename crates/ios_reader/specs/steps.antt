pub mod Networks
pub mod ProcessFacts
pub mod FaultsBy
pub mod ToldFaults
pub mod Parts
pub mod Passives
pub mod Tables
