-- Prefixes that routers treat alike.
use Rattle.std.specs.Prelude.{◌≡◌, ℕ, [], List, slice_get, slice_index_or, None, Some}
use Rattle.route_core.specs.Rows.{kept_in}
use Rattle.rib_mix.specs.steps.Spots.{number_at_spot}
use Rattle.rib_mix.specs.declared.both_tables.BothTables.{BothTables}
use Rattle.rib_mix.specs.steps.Uses.{Has}
use Rattle.rib_mix.specs.declared.own.Shared.{Shared}
use Rattle.rib_mix.specs.declared.spots.Spots.{Spots}

-- where prefixes stand among those of the tables, and at which routers they are connected
pub record PlacedPrefixes : Type 0 where
  pub spots : Spots
  pub homes : List (List ℕ)

-- those that serve all routers
abbrev pub own_placed : Shared → PlacedPrefixes
own_placed shared = record { spots = shared.spots.now; homes = shared.homes.now }

-- the prefixes at two places are alike at a router with these tables: it has the same entries for both, and both are connected
-- at the same routers
pub record AreLikeAt (all : PlacedPrefixes) (both : BothTables) (i j : ℕ) : Type 0 where
  pub olds : number_at_spot (kept_in both.old) (slice_index_or all.spots.olds.items i None) ≡
      number_at_spot (kept_in both.old) (slice_index_or all.spots.olds.items j None)
  pub news : number_at_spot (kept_in both.new) (slice_index_or all.spots.news.items i None) ≡
      number_at_spot (kept_in both.new) (slice_index_or all.spots.news.items j None)
  pub homes : slice_index_or all.homes i [] ≡ slice_index_or all.homes j []

-- they are alike at each router
abbrev pub AreLike : PlacedPrefixes → List BothTables → ℕ → ℕ → Type 0
AreLike all tables i j = (u : ℕ) (both : BothTables) → slice_get tables u ≡ Some both → AreLikeAt all both i j

-- a router has the same for two prefixes: the same entries, and both are connected or neither
pub record HaveSame (one other : Has) : Type 0 where
  pub connected : one.connected ≡ other.connected
  pub old : one.old ≡ other.old
  pub new : one.new ≡ other.new
