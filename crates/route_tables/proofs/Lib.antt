pub mod ListFacts
mod KeptTables
pub mod DestinationLists
pub mod BestRoutes
pub mod AlikeRoutes
mod BestSteps
mod LeadLaws
mod SharingLaws
mod PrefixOrder
pub mod JoinedLaws
