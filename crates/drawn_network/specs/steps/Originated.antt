-- The prefixes that a network originates, interface by interface.
use Rattle.std.specs.Prelude.{◌≡◌, ℕ, ◌<◌, ◌≤◌, ◌&&◌, ◌||◌, ◌⊎◌, is_some, Bool, Option, Some, IfSome, IsTrue, slice_get}
use Rattle.net_addr.specs.Addresses.{Block, ContainsAddress}
use Rattle.net_model.specs.Network.{Network}
use Rattle.net_model.specs.declared.interface.Interface.{Interface}
use Rattle.drawn_network.specs.LinkEnds.{interfaces_at}

-- an interface is up, and runs OSPF or a level of IS-IS
abbrev pub is_running : Interface → Bool
is_running i = i.up && (is_some i.area || (i.level1 || i.level2))

-- p is the subnet of such an interface of a router before u, or of one of the first k interfaces of u
pub record IsOriginatedTo (net : Network) (u k : ℕ) (p : Block) : Type 0 where
  pub router : ℕ
  pub place : ℕ
  pub interface : Interface
  pub at : slice_get (interfaces_at net router) place ≡ Some interface
  pub runs : IsTrue (is_running interface)
  pub subnet : interface.subnet ≡ Some p
  pub earlier : (router < u) ⊎ ((router ≡ u) × (place < k))

-- an interface originates a prefix with the address
pub record OriginatesAt (a : ℕ) (i : Interface) (p : Block) : Type 0 where
  pub runs : IsTrue (is_running i)
  pub subnet : i.subnet ≡ Some p
  pub contains : ContainsAddress p a

-- q is the longer of the best match so far and the prefix p
pub record IsLongerOf (best : Option Block) (p q : Block) : Type 0 where
  pub one : (q ≡ p) ⊎ (best ≡ Some q)
  pub as_long : p.len ≤ q.len
  pub as_best : IfSome best (λ b. b.len ≤ q.len)

-- the better of the best match so far and the prefix of an interface
pub data IsBetter (a : ℕ) (best : Option Block) (i : Interface) : Option Block → Type 0 where
  longer_of : (p q : Block) → OriginatesAt a i p → IsLongerOf best p q → IsBetter a best i (Some q)
  kept : ((p : Block) → OriginatesAt a i p → ⊥) → IsBetter a best i best
