-- A network and two sources of tables, with the classes of their addresses.
use Rattle.std.specs.Prelude.{ℕ, List}
use Rattle.net_addr.specs.Addresses.{Block}
use Rattle.net_model.specs.Network.{Network}
use Rattle.route_core.specs.declared.entry.Entry.{Entry}
use Rattle.igp_theory.specs.Migrations.{Migration, listed_migration}
use Rattle.prefix_atoms.specs.Classes.{Classes}

-- what mixed forwarding is over: the network, the old and the new source, and the classes of addresses
pub record Mixture (O N : Type 0) : Type 0 where
  pub net : Network
  pub old : O
  pub new : N
  pub classes : Classes

-- the migration of a mixture: its tables are the entries that its sources have
abbrev pub migration_of : {O N : Type 0} → (O → ℕ → List (Block × Entry)) → (N → ℕ → List (Block × Entry)) → Mixture O N → Migration
migration_of old new m = listed_migration m.net (old m.old) (new m.new)
