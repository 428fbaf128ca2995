-- The entries of both tables of all routers, and the order in which they are shown.
use Rattle.prefix_atoms.specs.Nested.{StandsBefore}
use Rattle.std.specs.Prelude.{◌≡◌, ℕ, ◌<◌, ◌↔◌, List, length, AllPairs, Contains}
use Rattle.net_addr.specs.Addresses.{Block}
use Rattle.route_core.specs.declared.entry.Entry.{Entry}
use Rattle.igp_theory.specs.Migrations.{Migration}
use Rattle.igp_theory.specs.Routes.{Tables}
use Rattle.shown_tables.specs.declared.igp.Igp.{Igp}
use Rattle.shown_tables.specs.declared.igp.Igp.TheVariants.{Ospf, Isis}

-- an entry as it is shown: the router whose table has it, the protocol of the table, the prefix, and what the table says of it
pub record ShownEntry : Type 0 where
  pub router : ℕ
  pub igp : Igp
  pub dest : Block
  pub entry : Entry

-- OSPF stands before IS-IS
abbrev pub igp_place : Igp → ℕ
igp_place Ospf = 0
igp_place Isis = 1

-- an entry stands before another one: by its router, which are numbered in byte order of their names, then by its protocol, then
-- by its prefix
pub data IsShownBefore (one other : ShownEntry) : Type 0 where
  by_router : one.router < other.router → IsShownBefore one other
  by_igp : one.router ≡ other.router → igp_place one.igp < igp_place other.igp → IsShownBefore one other
  by_dest : one.router ≡ other.router → one.igp ≡ other.igp → StandsBefore one.dest other.dest → IsShownBefore one other

-- the tables of a protocol: OSPF's are the old ones of the migration, IS-IS' the new ones
abbrev pub tables_by : Migration → Igp → Tables
tables_by move Ospf = move.old
tables_by move Isis = move.new

-- a router of the network has this entry
pub record IsHad (move : Migration) (one : ShownEntry) : Type 0 where
  pub router : one.router < length move.net
  pub entry : tables_by move one.igp one.router one.dest one.entry

-- the entries of which P holds, each once and in their order
pub record AreInShownOrder (P : ShownEntry → Type 0) (all : List ShownEntry) : Type 0 where
  pub exact : (one : ShownEntry) → Contains all one ↔ P one
  pub ascending : AllPairs IsShownBefore all
