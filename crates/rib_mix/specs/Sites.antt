-- Where an answer is asked for, and what is known of the entries there.
use Rattle.std.specs.Prelude.{◌≡◌, ℕ, List, length, slice_get, Some}
use Rattle.net_addr.specs.Addresses.{Block}
use Rattle.net_model.specs.Network.{Network}
use Rattle.route_core.specs.Rows.{kept_in, listed}
use Rattle.route_core.specs.Tables.{IsListed}
use Rattle.route_core.specs.declared.entry.Entry.{Entry}
use Rattle.route_core.specs.declared.table.TableParts.{TableParts}
use Rattle.igp_theory.specs.Forwarding.{Usable, Uses}
use Rattle.igp_theory.specs.Migrations.{Migration, migration}
use Rattle.igp_theory.specs.declared.phase.Phase.{Phase}
use Rattle.rib_mix.specs.declared.both_tables.BothTables.{BothTables}

-- where an answer is asked for: at router u of a network, with its tables in their parts, for address a
pub record Site : Type 0 where
  pub net : Network
  pub u : ℕ
  pub tables : BothTables
  pub a : ℕ

-- the entries of a table in its parts
abbrev pub table_of : TableParts → List (Block × Entry)
table_of parts = listed (kept_in parts)

-- the network with the tables of this router at each
abbrev pub own_migration : Site → Migration
own_migration s = migration s.net (λ v. IsListed (table_of s.tables.old)) (λ v. IsListed (table_of s.tables.new))

abbrev pub UsesAt : Site → Phase → Usable → Type 0
UsesAt s phase = Uses (own_migration s) s.u phase s.a

-- both tables of each of so many routers, in their parts
pub record AreTablesOf (old new : ℕ → List (Block × Entry)) (routers : ℕ) (tables : List BothTables) : Type 0 where
  pub count : length tables ≡ routers
  pub olds : (u : ℕ) (both : BothTables) → slice_get tables u ≡ Some both → table_of both.old ≡ old u
  pub news : (u : ℕ) (both : BothTables) → slice_get tables u ≡ Some both → table_of both.new ≡ new u
