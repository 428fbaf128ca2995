-- How large a network may be.
use Rattle.std.specs.Prelude.{◌≡◌, ◌≢◌, ℕ, ◌≤◌, List, length, Some, IsTrue, AllPairs, Contains, sum_by, count_by, ◌↔◌}
use Rattle.net_addr.specs.Addresses.{Block}
use Rattle.net_model.specs.Configuration.{Configuration}
use Rattle.net_model.specs.declared.bounds.TheConstants.{MOST_DESTS, MOST_ROUTERS, MOST_UP_INTERFACES}
use Rattle.net_model.specs.declared.area.Range.{Range}
use Rattle.net_model.specs.declared.interface.Interface.{Interface}

-- how many interfaces of a router are up
abbrev pub up_interfaces : Configuration → ℕ
up_interfaces c = count_by (λ i. i.up) c.interfaces

-- how many interfaces of all routers are up
abbrev pub all_up_interfaces : List Configuration → ℕ
all_up_interfaces configs = sum_by up_interfaces configs

-- a configuration names a prefix: it's the subnet of an interface that is up, or of a range
pub data NamesDest (c : Configuration) (p : Block) : Type 0 where
  by_interface : (i : Interface) → Contains c.interfaces i → IsTrue i.up → i.subnet ≡ Some p → NamesDest c p
  by_range : (r : Range) → Contains c.ranges r → r.dest ≡ p → NamesDest c p

-- some configuration names the prefix
pub record IsDest (configs : List Configuration) (p : Block) : Type 0 where
  pub config : Configuration
  pub among : Contains configs config
  pub names : NamesDest config p

-- the configurations name so many prefixes: a list of that length has each of them once, and no others
pub record CountsDests (configs : List Configuration) (count : ℕ) : Type 0 where
  pub dests : List Block
  pub once : AllPairs (λ (p q : Block). p ≢ q) dests
  pub exact : (p : Block) → Contains dests p ↔ IsDest configs p
  pub count_is : length dests ≡ count

-- at most so many routers, up interfaces and prefixes
pub record IsWithinLimits (configs : List Configuration) : Type 0 where
  pub routers : length configs ≤ MOST_ROUTERS
  pub interfaces : all_up_interfaces configs ≤ MOST_UP_INTERFACES
  pub dests : ℕ
  pub counted : CountsDests configs dests
  pub few : dests ≤ MOST_DESTS
