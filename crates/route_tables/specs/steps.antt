pub mod BestSoFar
pub mod Kinds
pub mod Sharing
pub mod Alike
pub mod Joined
pub mod Leads
pub mod Entries
pub mod Told
