-- Walks over the segments of a zone are walks over its adjacencies.
use Rattle.std.proofs.Common.{ℕ, ◌∙◌, ◌≤◌, List, sym, arith}
use Rattle.net_model.specs.Network.{Adjacent}
use Rattle.net_model.specs.declared.bounds.TheConstants.{MOST_ROUTERS}
use Rattle.walk_core.specs.Reach.{Reach, AreWalksBelow}
use Rattle.walk_core.specs.Segments.{SendsAcross}
use Rattle.walk_core.specs.declared.segment.Port.{Port}
use Rattle.walk_core.proofs.WalkLaws.{least_walks_over}
use Rattle.zone_graph.specs.Walks.{AreWalksOver}

pub are_walks_over : (count : ℕ) (segments : List (List Port)) (walks : List Reach) → count ≤ MOST_ROUTERS →
    AreWalksBelow (SendsAcross segments) count count walks → AreWalksOver count segments walks
are_walks_over count segments walks most below = λ net zone same are. record {
  routers = below.long ∙ sym same;
  least = λ u reach at. least_walks_over {arc = SendsAcross segments} {other = Adjacent net zone} {root = u} {reach = reach} are.exact (below.least u reach at);
  near = λ u reach at v d is. omega (arith, most, below.near u reach at v d is);
}
