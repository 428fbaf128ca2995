mod SuccessorFacts
mod MarkedLinks
mod HeldGraphs
mod ReachFacts
mod TraceFacts
pub mod LayerFacts
mod SortFacts
mod ListFacts
mod RaiseFacts
mod LayerSteps
mod ChainFacts
