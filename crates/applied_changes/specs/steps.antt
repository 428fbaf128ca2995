pub mod AppliedParts
pub mod PhaseLines
