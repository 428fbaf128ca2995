pub mod Members
pub mod Dests
pub mod Names
pub mod Adjacency
mod BestSubnets
pub mod NetworkFacts
mod Bests
pub mod PairFacts
pub mod RouterFacts
mod AddressClashes
mod AreaClashes
mod ClaimFacts
mod BorderFacts
mod SystemClashes
mod StubClashes
pub mod BuildFacts
pub mod RefusalLaws
