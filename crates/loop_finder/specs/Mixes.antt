-- What is mixed, its migration, and the least addresses of its classes.
use Rattle.std.specs.Prelude.{ℕ, List, slice_index}
use Rattle.net_addr.specs.Addresses.{Block}
use Rattle.net_model.specs.Network.{Network}
use Rattle.route_core.specs.declared.entry.Entry.{Entry}
use Rattle.igp_theory.specs.Migrations.{Migration, listed_migration}
use Rattle.prefix_atoms.specs.Classes.{Classes}
use Rattle.rib_mix.specs.Mixture.{Mixture}

-- the entries of a source's tables
abbrev pub Listing : Type 0 → Type 0
Listing O = O → ℕ → List (Block × Entry)

-- what is mixed: the network, the entries of the old and of the new tables, and the classes of addresses
pub record Mix : Type 0 where
  pub net : Network
  pub old : ℕ → List (Block × Entry)
  pub new : ℕ → List (Block × Entry)
  pub classes : Classes

-- that of a mixture whose sources have these entries
abbrev pub mix_of : {O N : Type 0} → Listing O → Listing N → Mixture O N → Mix
mix_of old new m = record { net = m.net; old = old m.old; new = new m.new; classes = m.classes }

-- its migration
abbrev pub migration_in : Mix → Migration
migration_in m = listed_migration m.net m.old m.new

-- the least address of a class
abbrev pub sample_of : Classes → ℕ → ℕ
sample_of classes atom = slice_index classes.samples atom

-- a class of what is mixed, by its number
pub record ClassIn : Type 0 where
  pub mixture : Mix
  pub atom : ℕ

-- the class with this number
abbrev pub class_in : Mix → ℕ → ClassIn
class_in m atom = record { mixture = m; atom = atom }

-- its least address
abbrev pub least_of : ClassIn → ℕ
least_of c = sample_of c.mixture.classes c.atom
