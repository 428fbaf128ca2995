pub mod ToldTexts
pub mod ReasonLines
mod EarlierTimes
mod OrderPhases
pub mod WayFaults
pub mod WayStates
mod OneUse
mod Lacking
mod Ways
mod LineParts
pub mod OneText
pub mod SameTexts
