pub mod ChangeWords
pub mod TwoFaults
pub mod TwoFiles
pub mod TwoTexts
pub mod TwoLaws
pub mod steps
