pub mod PartFacts
pub mod SightFacts
pub mod StateFacts
pub mod JournalFacts
pub mod ObservedFacts
