pub mod BackTexts
pub mod RestTexts
pub mod RestLaws
pub mod RestNights
pub mod steps
