pub mod Lists
pub mod AreaZones
pub mod RouteTables
pub mod steps
