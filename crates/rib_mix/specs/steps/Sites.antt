-- What counts at a router, and what its tables keep.
use Rattle.igp_theory.specs.Forwarding.{Kind, Counts}
use Rattle.std.specs.Prelude.{◌≡◌, ℕ, List, length, slice_get, All, Some, Contains}
use Rattle.net_addr.specs.Addresses.{Block, IsBlock}
use Rattle.net_model.specs.Configuration.{Configuration}
use Rattle.net_model.specs.Network.{Network, HasConfiguration, Connected}
use Rattle.net_model.specs.Refusals.{IsNetwork}
use Rattle.route_core.specs.Rows.{AreTableRows, IsTable, kept_in, row_prefixes, rows_in}
use Rattle.route_core.specs.Tables.{HasDistinctPrefixes}
use Rattle.route_core.specs.declared.entry.Entry.{Entry}
use Rattle.route_core.specs.declared.table.TableParts.{TableParts}
use Rattle.igp_theory.specs.declared.phase.Phase.{Phase}
use Rattle.rib_mix.specs.declared.both_tables.BothTables.{BothTables}
use Rattle.rib_mix.specs.Sites.{Site, table_of, own_migration}
use Rattle.rib_mix.specs.Rows.{Ground}

-- the prefixes of the parts of a table, by their rows
abbrev pub prefixes_in : TableParts → List Block
prefixes_in parts = row_prefixes parts.prefixes.now (rows_in (kept_in parts))

-- the rows of the parts are those of a table
abbrev pub HasTableRows : TableParts → Type 0
HasTableRows parts = AreTableRows parts.prefixes.now parts.entries.now (rows_in (kept_in parts))

-- the entries that count at a router in a phase
abbrev pub CountsAt : Site → Phase → Kind
CountsAt s phase = Counts (own_migration s) s.u phase

-- a router has this OSPF distance
pub record HasOspfDistance (net : Network) (u ospf : ℕ) : Type 0 where
  pub config : Configuration
  pub has : HasConfiguration net u config
  pub distance_is : config.distances.ospf ≡ ospf

-- what every table keeps: its prefixes are blocks of addresses, no two of them the same
pub record IsLawfulTable (entries : List (Block × Entry)) : Type 0 where
  pub blocks : All (λ entry. IsBlock entry.0) entries
  pub distinct : HasDistinctPrefixes entries

-- what every network and every table keeps
pub record IsLawfulSite (s : Site) : Type 0 where
  pub network : IsNetwork s.net
  pub old : IsLawfulTable (table_of s.tables.old)
  pub new : IsLawfulTable (table_of s.tables.new)
  pub old_rows : HasTableRows s.tables.old
  pub new_rows : HasTableRows s.tables.new

-- the parts of a table that keeps these prefixes
pub record IsTableOver (prefixes : List Block) (parts : TableParts) : Type 0 where
  pub table : IsTable (kept_in parts)
  pub prefixes_are : parts.prefixes.now ≡ prefixes

-- as many, each the parts of some tables, of which the old ones share their prefixes and so do the new ones
pub record AreTablesInParts (routers : ℕ) (tables : List BothTables) : Type 0 where
  pub old_prefixes : List Block
  pub new_prefixes : List Block
  pub count : length tables ≡ routers
  pub olds : (u : ℕ) (both : BothTables) → slice_get tables u ≡ Some both → IsTableOver old_prefixes both.old
  pub news : (u : ℕ) (both : BothTables) → slice_get tables u ≡ Some both → IsTableOver new_prefixes both.new

-- each of these prefixes is among those
abbrev pub AreAmong : List Block → List Block → Type 0
AreAmong prefixes own = (p : Block) → Contains own p → Contains prefixes p

-- the connected prefixes of all routers and those of their tables are among these
pub record AllOccur (prefixes : List Block) (g : Ground) : Type 0 where
  pub connected : (u : ℕ) (p : Block) → Connected g.net u p → Contains prefixes p
  pub olds : (u : ℕ) (both : BothTables) → slice_get g.tables u ≡ Some both → AreAmong prefixes (prefixes_in both.old)
  pub news : (u : ℕ) (both : BothTables) → slice_get g.tables u ≡ Some both → AreAmong prefixes (prefixes_in both.new)
