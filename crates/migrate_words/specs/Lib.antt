pub mod Schemes
pub mod Usages
pub mod CommandLine
pub mod Asked
pub mod Refusals
pub mod PlainWords
pub mod Laws
pub mod steps
