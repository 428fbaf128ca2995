-- Routers that were reached over shared subnets, as marks.
use Rattle.std.specs.Prelude.{◌≡◌, ◌↔◌, ℕ, ◌<◌, Bool, List, ◌⊎◌, length, Contains}
use Rattle.net_addr.specs.Addresses.{Block}
use Rattle.net_model.specs.Network.{Network}
use Rattle.order_core.specs.Marks.{IsMarked}
use Rattle.network_survey.specs.Joined.{AreJoinedRouters, MeetOnSubnet}
use Rattle.network_survey.specs.Ports.{Port}

-- one of the ports is of the router and of the subnet
pub record HasPortOn (ports : List Port) (router : ℕ) (subnet : Block) : Type 0 where
  pub port : Port
  pub among : Contains ports port
  pub router_is : port.router ≡ router
  pub subnet_is : port.subnet ≡ subnet

-- one of the first ports is of router u, and of a subnet of which one of all ports of router v is
pub record MeetIn (first ports : List Port) (u v : ℕ) : Type 0 where
  pub subnet : Block
  pub near : HasPortOn first u subnet
  pub far : HasPortOn ports v subnet

-- the ports' routers have marks
pub record HaveMarks (ports : List Port) (marks : List Bool) : Type 0 where
  pub router : (port : Port) → Contains ports port → port.router < length marks

-- the routers of which P holds were marked, too
abbrev pub MarksWhere : (ℕ → Type 0) → List Bool → List Bool → Type 0
MarksWhere P old new = (v : ℕ) → IsMarked new v ↔ (IsMarked old v ⊎ P v)

-- a router that is marked as reached, and not as done
pub record IsUnvisited (reached done : List Bool) (u : ℕ) : Type 0 where
  pub is_reached : IsMarked reached u
  pub not_done : IsMarked done u → ⊥

-- reached are routers that are joined with the first one, it among them, and the neighbors of those that are done
pub record AreReachedSoFar (net : Network) (reached done : List Bool) : Type 0 where
  pub joined : (v : ℕ) → IsMarked reached v → AreJoinedRouters net 0 v
  pub first : 0 < length net → IsMarked reached 0
  pub spread : (u v : ℕ) → IsMarked done u → MeetOnSubnet net u v → IsMarked reached v
  pub reached_count : length reached ≡ length net
  pub done_count : length done ≡ length net

-- the lowest router that isn't marked
pub record IsLowestUnmarked (marks : List Bool) (v : ℕ) : Type 0 where
  pub within : v < length marks
  pub unmarked : IsMarked marks v → ⊥
  pub before : (w : ℕ) → w < v → IsMarked marks w
