-- The levels as zones.
use Rattle.std.specs.Prelude.{ℕ}
use Rattle.net_model.specs.Network.{Network}
use Rattle.net_model.specs.declared.zone.Zone.{Zone}
use Rattle.net_model.specs.declared.zone.Zone.TheVariants.{One as ZoneOne, Two as ZoneTwo}
use Rattle.igp_theory.specs.Isis.{RunsLevelOne, RunsLevelTwo}
use Rattle.isis_routes.specs.declared.level.Level.{Level}
use Rattle.isis_routes.specs.declared.level.Level.TheVariants.{One, Two}

-- the number of a level among the zones of routes
abbrev pub zone_number : Level → ℕ
zone_number One = 0
zone_number Two = 1

-- the zone of the network in which a level has its adjacencies
abbrev pub zone_in : Level → Zone
zone_in One = ZoneOne
zone_in Two = ZoneTwo

-- router u runs the level
abbrev pub RunsLevel : Network → Level → ℕ → Type 0
RunsLevel net One u = RunsLevelOne net u
RunsLevel net Two u = RunsLevelTwo net u
