pub mod Faults
pub mod Files
pub mod Sink
pub mod Transfer
pub mod steps
