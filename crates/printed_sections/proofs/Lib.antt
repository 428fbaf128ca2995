pub mod SectionFacts
