pub mod AppliedTexts
pub mod MadeChanges
pub mod NamedPhases
pub mod Settings
pub mod steps
