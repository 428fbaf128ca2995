-- A migration: the network, the tables of its old and of its new protocol, and where each router starts.
use Rattle.std.specs.Prelude.{ℕ, List}
use Rattle.net_addr.specs.Addresses.{Block}
use Rattle.net_model.specs.Network.{Network}
use Rattle.route_core.specs.Tables.{HasEntry}
use Rattle.route_core.specs.declared.entry.Entry.{Entry}
use Rattle.igp_theory.specs.Isis.{IsisEntry}
use Rattle.igp_theory.specs.Ospf.{OspfEntry}
use Rattle.igp_theory.specs.Phases.{State, all_old}
use Rattle.igp_theory.specs.Routes.{Tables}

-- the network that is moved, with the old and the new table of every router, and the phase from which each router starts
pub record Migration : Type 1 where
  pub net : Network
  pub old : Tables
  pub new : Tables
  pub start : State

-- the migration of this network between these tables, from the state in which every router is Old
abbrev pub migration : Network → Tables → Tables → Migration
migration net old new = record { net = net; old = old; new = new; start = all_old }

-- a migration that goes on from a state, and one over other tables
abbrev pub started : State → Migration → Migration
started start move = record move { start = start }

abbrev pub retabled : Migration → Tables → Tables → Migration
retabled move old new = record move { old = old; new = new }

-- the same, where the tables are lists of entries
abbrev pub listed_migration : Network → (ℕ → List (Block × Entry)) → (ℕ → List (Block × Entry)) → Migration
listed_migration net old new = migration net (HasEntry old) (HasEntry new)

-- the migration of a network from its OSPF tables to its IS-IS tables
abbrev pub ospf_to_isis : Network → Migration
ospf_to_isis net = migration net (OspfEntry net) (IsisEntry net)
