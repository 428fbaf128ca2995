mod SimpleWalks
mod ZoneSums
mod ZoneCosts
mod OspfBounds
mod IsisBounds
