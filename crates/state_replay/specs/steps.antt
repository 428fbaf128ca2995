pub mod Fitting
pub mod Making
