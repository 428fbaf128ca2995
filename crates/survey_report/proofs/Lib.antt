mod PartFacts
mod WordFacts
mod ReadingFacts
mod RefusalFacts
mod LineFacts
mod FaultLineFacts
mod ListedOnce
mod KindsOnce
mod FaultsOnce
pub mod SurveyOnce
