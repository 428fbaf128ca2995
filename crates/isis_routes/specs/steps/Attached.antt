-- Level 2 out of an IS-IS area.
use Rattle.std.specs.Prelude.{◌≢◌, ℕ, List}
use Rattle.net_model.specs.Configuration.{Configuration}
use Rattle.net_model.specs.Network.{Network, HasConfiguration, Adjacent}
use Rattle.net_model.specs.declared.zone.Zone.TheVariants.{Two}
use Rattle.walk_core.specs.Walks.{Leg, Walks}

-- a walk in level 2 leads from u to v, and they have different IS-IS areas
pub record LeadsOutside (net : Network) (u v : ℕ) : Type 0 where
  pub legs : List Leg
  pub walk : Walks (Adjacent net Two) u legs v
  pub near : Configuration
  pub far : Configuration
  pub near_router : HasConfiguration net u near
  pub far_router : HasConfiguration net v far
  pub other_area : near.isis_area ≢ far.isis_area

-- level 2 leads from u to a router of another IS-IS area
pub record LeavesArea (net : Network) (u : ℕ) : Type 0 where
  pub far : ℕ
  pub outside : LeadsOutside net u far
