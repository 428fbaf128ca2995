pub mod ChangeReasons
mod ChangeTimes
pub mod AskedLists
pub mod ToldChanges
pub mod OneChangeText
pub mod SameChangeTexts
