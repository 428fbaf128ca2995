-- The tables of all routers, and who is linked to whom.
use Rattle.std.specs.Prelude.{◌≡◌, ◌<◌, ◌≤◌, ◌↔◌, ℕ, List, [], ◌∷◌, length, map, slice_index_or, All}
use Rattle.net_addr.specs.Addresses.{Block}
use Rattle.walk_core.specs.declared.segment.Port.{Port}
use Rattle.route_core.specs.Rows.{KeptTable, listed}
use Rattle.route_core.specs.Tables.{AreTables, HasEntry}
use Rattle.route_core.specs.declared.entry.Entry.{Entry}
use Rattle.route_tables.specs.Entries.{AreJoined}

-- the prefixes that all tables keep, the entries of each router's table, and the segments that join routers
pub record Routes : Type 0 where
  pub prefixes : List Block
  pub tables : List (List (Block × Entry))
  pub segments : List (List Port)

-- the prefixes that the first of the tables keeps
abbrev pub prefixes_of_first : List KeptTable → List Block
prefixes_of_first [] = []
prefixes_of_first (kept ∷ _) = kept.prefixes

-- what these tables and segments stand for
abbrev pub routes_in : List KeptTable → List (List Port) → Routes
routes_in tables segments = record { prefixes = prefixes_of_first tables; tables = map listed tables; segments = segments }

-- how many routers there are
abbrev pub router_count : Routes → ℕ
router_count routes = length routes.tables

-- the entries of a router's table
abbrev pub table_at : Routes → ℕ → List (Block × Entry)
table_at routes u = slice_index_or routes.tables u []

-- u sends to v over one of the segments
abbrev pub AreLinked : Routes → ℕ → ℕ → Type 0
AreLinked routes u v = AreJoined routes.segments u v

-- what every source of tables promises, of at most 200 routers
pub record AreLawful (routes : Routes) : Type 0 where
  pub few : router_count routes ≤ 200
  pub tables : AreTables (router_count routes) (table_at routes) (AreLinked routes)

-- tables that keep the same prefixes, and segments, which keep this promise
pub record AreSourceTables (tables : List KeptTable) (segments : List (List Port)) : Type 0 where
  pub lawful : AreLawful (routes_in tables segments)
  pub prefixes : All (λ (kept : KeptTable). kept.prefixes ≡ prefixes_of_first tables) tables

-- the tables are those of this many routers, for every prefix and entry, and two routers are linked exactly where they
-- are neighbors
pub record AreRoutes (count : ℕ) (entry : ℕ → Block → Entry → Type 0) (neighbor : ℕ → ℕ → Type 0) (routes : Routes) : Type 0 where
  pub routers : router_count routes ≡ count
  pub entries : (u : ℕ) (p : Block) (e : Entry) → u < count → HasEntry (table_at routes) u p e ↔ entry u p e
  pub linked : (u v : ℕ) → AreLinked routes u v ↔ neighbor u v
