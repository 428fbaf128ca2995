-- The best of what a router has of one kind, and of two kinds.
use Rattle.igp_theory.specs.Forwarding.{Kind, NewCounts, OldCounts, Usable, connected, of_new, of_old}
use Rattle.std.specs.Prelude.{◌≡◌, ◌≢◌, ℕ, ◌≤◌, Bool, ◌&&◌, ◌||◌}
use Rattle.std.specs.Prelude.{◌==◌, nat_lt, nat_le, if◌then◌else◌, List, Option, None, Some}
use Rattle.std.specs.Prelude.{MatchOption}
use Rattle.net_addr.specs.Addresses.{Block, ContainsAddress}
use Rattle.net_model.specs.Configuration.{Configuration}
use Rattle.net_model.specs.Network.{Connected, HasConfiguration, Network}
use Rattle.net_model.specs.declared.bounds.TheConstants.{ISIS_DISTANCE, MOST_DISTANCE}
use Rattle.route_core.specs.Tables.{IsListed}
use Rattle.route_core.specs.declared.entry.Entry.{Entry}
use Rattle.igp_theory.specs.declared.phase.Phase.{Phase}
use Rattle.used_routes.specs.declared.used.Origin.{Origin}
use Rattle.used_routes.specs.declared.used.UsedRoute.{UsedRoute}

-- connected prefixes, entries of the old table, entries of the new one
pub data OfConnected (net : Network) (u : ℕ) (p : Block) : ℕ → Usable → Type 0 where
  is_connected : Connected net u p → OfConnected net u p 0 connected

pub data OfOld (net : Network) (table : List (Block × Entry)) (u : ℕ) (phase : Phase) (p : Block) : ℕ → Usable → Type 0 where
  in_old : {distance : ℕ} {e : Entry} → OldCounts phase → (c : Configuration) → HasConfiguration net u c →
      c.distances.ospf ≡ distance →
      distance ≢ MOST_DISTANCE → IsListed table p e → OfOld net table u phase p distance (of_old e)

pub data OfNew (table : List (Block × Entry)) (phase : Phase) (p : Block) : ℕ → Usable → Type 0 where
  in_new : {e : Entry} → NewCounts phase → IsListed table p e → OfNew table phase p ISIS_DISTANCE (of_new e)

-- the best of entries: the longest that contains the address, and of these the one of lowest distance
pub record IsBestUsed (usable : Origin → Usable) (counting : Kind) (a : ℕ) (route : UsedRoute) : Type 0 where
  pub counts : counting route.prefix route.distance (usable route.origin)
  pub contains : ContainsAddress route.prefix a
  pub longest : (q : Block) (d : ℕ) (other : Usable) → counting q d other → ContainsAddress q a → q.len ≤ route.prefix.len
  pub lowest : (q : Block) (d : ℕ) (other : Usable) → counting q d other → ContainsAddress q a → q.len ≡ route.prefix.len →
      route.distance ≤ d

-- none of them contains the address
abbrev pub HasNone : Kind → ℕ → Type 0
HasNone counting a = (q : Block) (d : ℕ) (other : Usable) → counting q d other → ContainsAddress q a → ⊥

-- the best, if any contains the address
abbrev pub IsFoundUsed : (Origin → Usable) → Kind → ℕ → Option UsedRoute → Type 0
IsFoundUsed usable counting a found = MatchOption found (HasNone counting a) (IsBestUsed usable counting a)

-- the first of two routes is longer, or as long and of no higher distance
abbrev pub comes_first : UsedRoute → UsedRoute → Bool
comes_first one other = nat_lt other.prefix.len one.prefix.len ||
    ((one.prefix.len == other.prefix.len) && nat_le one.distance other.distance)

-- the better of two routes
abbrev pub better_route : Option UsedRoute → Option UsedRoute → Option UsedRoute
better_route (Some one) (Some other) = Some (if comes_first one other then one else other)
better_route None other = other
better_route one None = one
