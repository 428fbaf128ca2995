mod BestRoutes
mod OwnRoutes
