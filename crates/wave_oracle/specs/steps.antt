pub mod ToldLoops
pub mod RankedTimes
