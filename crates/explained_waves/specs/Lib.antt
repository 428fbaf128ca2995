pub mod Reasons
pub mod ReasonLaws
