pub mod SameBarDistances
pub mod ReadProcesses
pub mod PhasesByDistance
pub mod TypedTexts
