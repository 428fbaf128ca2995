pub mod TreeLines
pub mod WrongLines
pub mod StartLines
pub mod Verdicts
pub mod RestVerdicts
pub mod TreeTexts
pub mod Laws
pub mod steps
