-- Routes of a router before they are entries, and the entries that they make.
use Rattle.std.specs.Prelude.{◌≡◌, ◌<◌, ◌↔◌, ℕ, List, Some, Contains}
use Rattle.std.specs.List.Sorted.{IsStrictlyIncreasing}
use Rattle.walk_core.specs.Reach.{Reach, distance_of, HasHop}
use Rattle.route_core.specs.declared.entry.Entry.{Entry}
use Rattle.route_core.specs.declared.entry.Entry.TheVariants.{Via, Discard}
use Rattle.route_tables.specs.declared.route.Route.{Route}
use Rattle.route_tables.specs.declared.route.Route.TheVariants.{Drops, Towards, Through}
use Rattle.route_tables.specs.declared.route.Target.{Target}

-- the hops are the first hops below n towards a vertex, in ascending order
pub record AreHopsTo (reach : Reach) (at n : ℕ) (hops : List ℕ) : Type 0 where
  pub ascending : IsStrictlyIncreasing hops
  pub exact : (h : ℕ) → Contains hops h ↔ ((h < n) × HasHop reach at h)

-- the vertex is reached
pub record IsReached (reach : Reach) (at : ℕ) : Type 0 where
  pub distance : ℕ
  pub reached : distance_of reach at ≡ Some distance

-- the entry forwards to the first hops below n towards a vertex
pub record IsEntryTo (reach : Reach) (at n : ℕ) (entry : Entry) : Type 0 where
  pub hops : List ℕ
  pub is : entry ≡ Via hops
  pub are : AreHopsTo reach at n hops

-- the route makes this entry, by the least walks of each zone
abbrev pub Makes : (ℕ → Reach) → ℕ → Route → Entry → Type 0
Makes reach n Drops entry = entry ≡ Discard
Makes reach n (Towards target) entry = IsEntryTo (reach target.zone) target.at n entry
Makes reach n (Through hops) entry = entry ≡ Via hops

-- the target is of one of so many zones, and reached there
pub record IsZoneTarget (reach : ℕ → Reach) (zones : ℕ) (target : Target) : Type 0 where
  pub zone : target.zone < zones
  pub reached : IsReached (reach target.zone) target.at

-- where the route is towards a target, that is one
abbrev pub HasZoneTarget : (ℕ → Reach) → ℕ → Route → Type 0
HasZoneTarget reach zones Drops = Unit {0}
HasZoneTarget reach zones (Towards target) = IsZoneTarget reach zones target
HasZoneTarget reach zones (Through hops) = Unit {0}

-- the route's entry is one of these
pub record IsRouteFor (reach : ℕ → Reach) (zones n : ℕ) (entry : Entry → Type 0) (route : Route) : Type 0 where
  pub target : HasZoneTarget reach zones route
  pub makes : (e : Entry) → Makes reach n route e → entry e

-- the entry forwards to hops of which this holds
pub record ForwardsBy (holds : List ℕ → Type 0) (entry : Entry) : Type 0 where
  pub hops : List ℕ
  pub forwards : entry ≡ Via hops
  pub are : holds hops
