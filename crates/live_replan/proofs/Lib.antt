pub mod ToldFacts
pub mod RestFacts
pub mod NightFacts
