pub mod Asking
pub mod Mixing
