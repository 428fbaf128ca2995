pub mod FurtherSections
pub mod BlockLines
pub mod GrownConfigurations
pub mod AppliedFacts
pub mod MadeFacts
pub mod PhaseFacts
pub mod PartFacts
