pub mod Doubles
pub mod Subnets
pub mod Scans
pub mod Claims
pub mod BestLinks
pub mod Refused
pub mod Systems
