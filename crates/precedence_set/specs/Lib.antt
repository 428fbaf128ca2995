pub use Rattle.order_core.specs.Pairs
pub mod LeastCycle
pub mod Assumed
pub mod Successors
pub mod Layers
pub mod Held
pub mod steps
