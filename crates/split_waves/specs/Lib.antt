pub mod Refinements
pub mod Cuts
pub mod steps
