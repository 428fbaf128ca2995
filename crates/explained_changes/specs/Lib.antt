pub mod ChangeReasons
pub mod ChangeReasonTexts
pub mod ChangeReasonLaws
pub mod steps
