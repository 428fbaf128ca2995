-- What the routers of a network use for each of some addresses, and what mixed forwarding keeps.
use Rattle.std.specs.Prelude.{◌≡◌, ℕ, ◌<◌, ◌↔◌, List, length, slice_get, slice_index, slice_index_or, Option, None, Some, IfSome}
use Rattle.std.specs.Prelude.{Contains}
use Rattle.net_addr.specs.Addresses.{Block}
use Rattle.net_model.specs.Network.{Network, Connected}
use Rattle.route_core.specs.declared.entry.Entry.{Entry}
use Rattle.igp_theory.specs.Migrations.{Migration, listed_migration, migration}
use Rattle.prefix_atoms.specs.Classes.{Classes, AreClasses, SourceEntry}
use Rattle.rib_mix.specs.Answers.{AreAlike}
use Rattle.rib_mix.specs.Cells.{IsCell, cell_at}
use Rattle.rib_mix.specs.Sites.{AreTablesOf, Site}
use Rattle.rib_mix.specs.declared.both_tables.BothTables.{BothTables}
use Rattle.rib_mix.specs.declared.cell.Cell.{Cell}

-- a network, and both tables of each of its routers in their parts
pub record Ground : Type 0 where
  pub net : Network
  pub tables : List BothTables

-- where an answer is asked for at a router, for address a
abbrev pub site : Ground → ℕ → BothTables → ℕ → Site
site g u both a = record { net = g.net; u = u; tables = both; a = a }

-- what a router uses for each of some addresses, by the places at which it is asked for: the cell of the address's sort
pub record IsRow (at : ℕ → Site) (addresses : List ℕ) (sorts : List (Option ℕ)) (cells : List Cell) : Type 0 where
  pub within : (k : ℕ) → k < length addresses → IfSome (slice_index_or sorts k None) (λ sort. sort < length cells)
  pub each : (k : ℕ) → k < length addresses → IsCell (at (slice_index addresses k)) (cell_at cells (slice_index_or sorts k None))

-- what each router uses for each of some addresses, by their sorts
pub record AreRows (g : Ground) (addresses : List ℕ) (sorts : List (Option ℕ)) (rows : List (List Cell)) : Type 0 where
  pub count : length rows ≡ length g.net
  pub each : (u : ℕ) (row : List Cell) → slice_get rows u ≡ Some row → (both : BothTables) → slice_get g.tables u ≡ Some both →
      IsRow (site g u both) addresses sorts row

-- the prefixes that are connected at router u
abbrev pub AreSubnets : Network → ℕ → List Block → Type 0
AreSubnets net u subnets = (p : Block) → Contains subnets p ↔ Connected net u p

-- the prefixes that are connected at each router
pub record AreAllSubnets (net : Network) (subnets : List (List Block)) : Type 0 where
  pub count : length subnets ≡ length net
  pub each : (u : ℕ) (ps : List Block) → slice_get subnets u ≡ Some ps → AreSubnets net u ps

-- what mixed forwarding keeps
pub record MixedParts : Type 0 where
  pub ground : Ground
  pub classes : Classes
  pub subnets : List (List Block)
  pub rows : List (List Cell)
  pub sorts : List (Option ℕ)
  pub earlier : List (Option ℕ)

-- for each class an earlier one that every router treats alike, where one is known
pub record AreEarlierClasses (move : Migration) (classes : Classes) (earlier : List (Option ℕ)) : Type 0 where
  pub count : length earlier ≡ length classes.samples
  pub before : (k other : ℕ) → slice_get earlier k ≡ Some (Some other) → other < k
  pub alike : (k other : ℕ) → slice_get earlier k ≡ Some (Some other) → AreAlike move classes other k

-- what mixed forwarding keeps of a network and the tables of its routers: their classes with their sorts, the connected
-- prefixes, and what is used for the sorts
pub record IsForwarding (old new : ℕ → List (Block × Entry)) (kept : MixedParts) : Type 0 where
  pub classes_are : AreClasses (migration kept.ground.net (SourceEntry (length kept.ground.net) old) (SourceEntry (length kept.ground.net) new)) kept.classes
  pub subnets_are : AreAllSubnets kept.ground.net kept.subnets
  pub tables_are : AreTablesOf old new (length kept.ground.net) kept.ground.tables
  pub sorts_count : length kept.sorts ≡ length kept.classes.samples
  pub rows_are : AreRows kept.ground kept.classes.samples kept.sorts kept.rows

-- it keeps the earlier classes alike too
pub record IsMixed (old new : ℕ → List (Block × Entry)) (kept : MixedParts) : Type 0 where
  pub forwarding : IsForwarding old new kept
  pub earlier_are : AreEarlierClasses (listed_migration kept.ground.net old new) kept.classes kept.earlier
