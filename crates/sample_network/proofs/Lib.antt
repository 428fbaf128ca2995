pub mod TextFacts
pub mod TextLengths
