-- The subnets of a router's interfaces.
use Rattle.std.specs.Prelude.{◌≡◌, ◌≤◌, ℕ, nat_lt, if◌then◌else◌, List, Option, Some, IsTrue, Any}
use Rattle.net_addr.specs.Addresses.{Block, ContainsAddress}
use Rattle.net_model.specs.Least.{IsBest, better_by}
use Rattle.net_model.specs.declared.interface.Interface.{Interface}

-- an interface is up and has this subnet
pub record HasSubnet (p : Block) (i : Interface) : Type 0 where
  pub up : IsTrue i.up
  pub subnet : i.subnet ≡ Some p

-- and this subnet contains the address
abbrev pub HasSubnetAround : ℕ → Block → Interface → Type 0
HasSubnetAround a p i = HasSubnet p i × ContainsAddress p a

-- the longest such subnet of the interfaces, if there is one
abbrev pub BestSubnet : ℕ → List Interface → Option Block → Type 0
BestSubnet a interfaces = IsBest (λ p q. q.len ≤ p.len) (λ p. Any (HasSubnetAround a p) interfaces)

-- the longer of two prefixes
abbrev pub pick_longer : Block → Block → Block
pick_longer p q = if nat_lt p.len q.len then q else p

-- the longer of two prefixes, or the one that there is
abbrev pub longer_of : Option Block → Option Block → Option Block
longer_of = better_by pick_longer
