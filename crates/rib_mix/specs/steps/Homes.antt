-- The routers at which each of some prefixes is connected.
use Rattle.std.specs.Prelude.{◌≡◌, ℕ, ◌<◌, ◌⊎◌, ◌↔◌, ◌++◌, ◌∷◌, [], List, length, slice_get, slice_index_or, slice_set, Option}
use Rattle.std.specs.Prelude.{Some, None, Contains, Bool, eqb}
use Rattle.std.specs.Set.{is_member}
use Rattle.net_addr.specs.Addresses.{Block}
use Rattle.net_model.specs.Network.{Network, Connected}

-- router v is one of the first n, at which these prefixes are connected, and p is among them
abbrev pub IsHomeBelow : List (List Block) → ℕ → Block → ℕ → Type 0
IsHomeBelow subnets n p v = (v < n) × Contains (slice_index_or subnets v []) p

-- for each prefix its homes among the first n routers
pub record AreHomesBelow (prefixes : List Block) (subnets : List (List Block)) (n : ℕ) (homes : List (List ℕ)) : Type 0 where
  pub count : length homes ≡ length prefixes
  pub each : (i v : ℕ) (p : Block) → slice_get prefixes i ≡ Some p → Contains
      (slice_index_or homes i []) v ↔ IsHomeBelow subnets n p v

-- for each prefix all its homes
abbrev pub ArePrefixHomes : List Block → List (List Block) → List (List ℕ) → Type 0
ArePrefixHomes prefixes subnets homes = AreHomesBelow prefixes subnets (length subnets) homes

-- for each prefix the routers of a network at which it is connected
pub record AreNetHomes (net : Network) (prefixes : List Block) (homes : List (List ℕ)) : Type 0 where
  pub count : length homes ≡ length prefixes
  pub each : (i v : ℕ) (p : Block) → slice_get prefixes i ≡ Some p → Contains (slice_index_or homes i []) v ↔ Connected net v p

-- whether router u is one of those of the prefix at a place
abbrev pub is_home : List (List ℕ) → ℕ → ℕ → Bool
is_home homes u place = is_member eqb (slice_index_or homes place []) u

-- those of the prefixes that are seen gain a router as a home, and no others
pub record GainHomes (prefixes : List Block) (router : ℕ) (seen : List Block) (old new : List (List ℕ)) : Type 0 where
  pub count : length new ≡ length old
  pub each : (i v : ℕ) (p : Block) → slice_get prefixes i ≡ Some p →
      Contains (slice_index_or new i []) v ↔ (Contains (slice_index_or old i []) v ⊎ ((router ≡ v) × Contains seen p))

-- homes with a router added at this place, if there is one
abbrev pub with_home : Option ℕ → ℕ → List (List ℕ) → List (List ℕ)
with_home None router homes = homes
with_home (Some place) router homes = slice_set homes place (slice_index_or homes place [] ++ router ∷ [])
