-- Which routers a walk over shared subnets joins.
use Rattle.std.specs.Prelude.{ℕ, ◌<◌, length}
use Rattle.net_addr.specs.Addresses.{Block}
use Rattle.net_model.specs.Network.{Network, Connected}

-- two routers have up interfaces of one subnet
pub record MeetOnSubnet (net : Network) (u v : ℕ) : Type 0 where
  pub subnet : Block
  pub one : Connected net u subnet
  pub other : Connected net v subnet

-- a walk leads from router u to router v, each router of it sharing a subnet with the next
pub data AreJoinedRouters (net : Network) (u : ℕ) : ℕ → Type 0 where
  here : AreJoinedRouters net u u
  further : (v w : ℕ) → AreJoinedRouters net u v → MeetOnSubnet net v w → AreJoinedRouters net u w

-- no walk joins router v with the first router
pub record IsCutOff (net : Network) (v : ℕ) : Type 0 where
  pub router : v < length net
  pub cut : AreJoinedRouters net 0 v → ⊥

-- a walk joins each two routers
abbrev pub AllJoined : Network → Type 0
AllJoined net = (u v : ℕ) → u < length net → v < length net → AreJoinedRouters net u v
