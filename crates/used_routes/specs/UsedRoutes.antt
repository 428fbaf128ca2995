-- What a router uses, with its prefix and its distance (RFC 1812, section 5.2.4.3).
use Rattle.std.specs.Prelude.{◌≡◌, ℕ, ◌<◌, List, length, slice_index_or}
use Rattle.net_addr.specs.Addresses.{Block, default_prefix}
use Rattle.net_model.specs.Network.{Network}
use Rattle.route_core.specs.declared.entry.Entry.{Entry}
use Rattle.route_core.specs.declared.entry.Entry.TheVariants.{Discard}
use Rattle.igp_theory.specs.Forwarding.{Usable, Uses, connected, of_new, of_old}
use Rattle.igp_theory.specs.Migrations.{listed_migration}
use Rattle.igp_theory.specs.declared.phase.Phase.{Phase}
use Rattle.used_routes.specs.declared.used.Origin.{Origin}
use Rattle.used_routes.specs.declared.used.Origin.TheVariants.{Connected, Old, New}
use Rattle.used_routes.specs.declared.used.UsedRoute.{UsedRoute}

-- the entry at a place of a table
abbrev pub entry_at : List (Block × Entry) → ℕ → Entry
entry_at table place = (slice_index_or table place (default_prefix, Discard)).1

-- what a route is at a router with this old and this new table, in the words of forwarding
abbrev pub usable_at : List (Block × Entry) → List (Block × Entry) → Origin → Usable
usable_at old new Connected = connected
usable_at old new (Old place) = of_old (entry_at old place)
usable_at old new (New place) = of_new (entry_at new place)

-- the place is one of the table that it is said of
abbrev pub IsOfTables : List (Block × Entry) → List (Block × Entry) → Origin → Type 0
IsOfTables old new Connected = Unit {0}
IsOfTables old new (Old place) = place < length old
IsOfTables old new (New place) = place < length new

-- router u uses this route for the address in this phase: the entry, of this prefix and at this distance
pub record IsUsedRoute (net : Network) (old new : ℕ → List (Block × Entry)) (u : ℕ) (phase : Phase) (a : ℕ)
    (route : UsedRoute) : Type 0 where
  pub uses : Uses (listed_migration net old new) u phase a (usable_at (old u) (new u) route.origin)
  pub prefix_is : uses.prefix ≡ route.prefix
  pub distance_is : uses.distance ≡ route.distance
