pub mod Parsing
pub mod FaultLists
pub mod NetworkFaultLists
