-- The segments of a zone.
use Rattle.std.specs.Prelude.{ℕ, ◌↔◌, List, length}
use Rattle.net_model.specs.Network.{Network, Adjacent}
use Rattle.net_model.specs.declared.zone.Zone.{Zone}
use Rattle.walk_core.specs.Segments.{AreSegments, SendsAcross}
use Rattle.walk_core.specs.declared.segment.Port.{Port}

-- the segments of a zone stand for the adjacencies of the network in it
pub record AreZoneSegments (net : Network) (zone : Zone) (segments : List (List Port)) : Type 0 where
  pub ports : AreSegments (length net) segments
  pub exact : (u v cost : ℕ) → SendsAcross segments u v cost ↔ Adjacent net zone u v cost
