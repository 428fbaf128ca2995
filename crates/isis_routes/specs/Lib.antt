pub mod RouteTables
pub mod steps
