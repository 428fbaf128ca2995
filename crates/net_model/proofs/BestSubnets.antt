-- The longest subnet of a router's interfaces around an address is the longest connected prefix there.
use Rattle.std.proofs.Common.{ℕ, Option, Some, None, Any, MatchOption}
use Rattle.net_addr.specs.Addresses.{Block, ContainsAddress}
use Rattle.net_model.specs.Configuration.{Configuration}
use Rattle.net_model.specs.Lookups.{LongestConnected}
use Rattle.net_model.specs.Network.{Network, HasConfiguration, Connected}
use Rattle.net_model.specs.steps.Subnets.{BestSubnet, HasSubnetAround}
use Rattle.net_model.proofs.Adjacency.{UpInterface-among}
use Rattle.net_addr.proofs.SomeElement.{any_of}

module _ (net : Network) (u : ℕ) (c : Configuration) (at : HasConfiguration net u c) (a : ℕ) where
  Connected-from : (p : Block) → Any (HasSubnetAround a p) c.interfaces → Connected net u p
  Connected-from p h =
      let has = h.4.0 in
      record { interface = h.1; up = record { config = c; router = at; among = (h.0, h.2, h.3); up = has.up }; subnet = has.subnet }

  list_from : (p : Block) → Connected net u p → ContainsAddress p a → Any (HasSubnetAround a p) c.interfaces
  list_from p on inside =
      let i = on.interface in
      any_of (HasSubnetAround a p) c.interfaces i (UpInterface-among net u c i at on.up) (record { up = on.up.up; subnet = on.subnet }, inside)

  pub LongestConnected-from_best : (best : Option Block) → BestSubnet a c.interfaces best →
      MatchOption best ((p : Block) → Connected net u p → ContainsAddress p a → ⊥) (LongestConnected net u a)
  LongestConnected-from_best None h = λ p on inside. h p (list_from p on inside)
  LongestConnected-from_best (Some p) h = record {
    is_offered = Connected-from p h.holds;
    contains = h.holds.4.1;
    longest = λ q on inside. h.least q (list_from q on inside);
  }
