-- How many distinct prefixes are originated in a network.
use Rattle.std.specs.Prelude.{◌≡◌, ◌≢◌, ℕ, ◌↔◌, List, length, AllPairs, Contains}
use Rattle.net_addr.specs.Addresses.{Block}
use Rattle.net_model.specs.Network.{Network}
use Rattle.igp_theory.specs.Forwarding.{IsOriginated}

-- so many: a list of that length has each of the prefixes that are originated in the network once, and no others
pub record CountsOriginated (net : Network) (count : ℕ) : Type 0 where
  pub prefixes : List Block
  pub once : AllPairs (λ (p q : Block). p ≢ q) prefixes
  pub exact : (p : Block) → Contains prefixes p ↔ IsOriginated net p
  pub count_is : length prefixes ≡ count
