-- The targets of addresses in a network.
use Rattle.std.specs.Prelude.{ℕ}
use Rattle.net_addr.specs.Addresses.{Block}
use Rattle.net_model.specs.Network.{Network}
use Rattle.net_model.specs.Refusals.{IsNetwork}
use Rattle.igp_theory.specs.Forwarding.{IsTarget}

-- in a network an address has this target
pub record IsTargetIn (net : Network) (a : ℕ) (p : Block) : Type 0 where
  pub network : IsNetwork net
  pub target : IsTarget net a p
