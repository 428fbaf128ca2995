pub mod WalkLaws
pub mod KeptLaws
pub mod LostLaws
pub mod RelaxLaws
pub mod HopLaws
pub mod DepartureLaws
pub mod ReachLaws
pub mod OfferLaws
pub mod ListParts
pub mod CheapestLaws
mod NearestLaws
pub mod LoopLaws
pub mod FloodLaws
pub mod SegmentHopLaws
mod ExitLaws
pub mod SegmentSteps
pub mod LanLaws
mod AddingLaws
mod OutletLaws
pub mod RowLaws
pub mod StaleLaws
mod FloodSteps
mod BegunLaws
pub mod StretchLaws
mod MemberSteps
mod MemberLists
mod MemberLaws
mod MemberFacts
