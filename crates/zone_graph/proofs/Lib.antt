pub mod LinkFacts
pub mod AttachmentFacts
pub mod RunFacts
pub mod WalkFacts
pub mod KnownFacts
