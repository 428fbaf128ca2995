pub mod SameItems
pub mod Sights
pub mod ToldJournals
