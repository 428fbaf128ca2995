pub mod LinkVerdicts
pub mod FailureTexts
pub mod FailureLaws
