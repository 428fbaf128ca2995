-- The prefixes that IS-IS may have entries for.
use Rattle.std.specs.Prelude.{◌≡◌, ◌⊎◌, ℕ, Some, IsTrue}
use Rattle.net_addr.specs.Addresses.{Block, default_prefix}
use Rattle.net_model.specs.Network.{Network, UpInterface}
use Rattle.net_model.specs.declared.interface.Interface.{Interface}

-- the interface is up, runs a level of IS-IS and has the subnet p
pub record HasIsisSubnet (p : Block) (i : Interface) : Type 0 where
  pub up : IsTrue i.up
  pub runs : IsTrue i.level1 ⊎ IsTrue i.level2
  pub subnet : i.subnet ≡ Some p

-- an up interface of some router runs a level of IS-IS and has the subnet p
pub record IsIsisSubnet (net : Network) (p : Block) : Type 0 where
  pub router : ℕ
  pub interface : Interface
  pub up : UpInterface net router interface
  pub has : HasIsisSubnet p interface

-- p is such a subnet, or the prefix of all addresses
abbrev pub IsIsisCandidate : Network → Block → Type 0
IsIsisCandidate net p = (p ≡ default_prefix) ⊎ IsIsisSubnet net p
