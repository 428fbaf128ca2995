pub mod InsideFacts
pub mod NameFacts
pub mod SeenFacts
pub mod ShownFacts
pub mod ToldFacts
pub mod WordFacts
