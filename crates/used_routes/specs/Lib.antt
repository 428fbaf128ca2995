pub mod UsedRoutes
pub mod steps
