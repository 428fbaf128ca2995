-- What a router does in Middle, told by what it does in Old and in New.
use Rattle.std.specs.Prelude.{ℕ, ◌<◌, ◌↔◌, ◌⊎◌, List, length}
use Rattle.net_addr.specs.Addresses.{Block}
use Rattle.net_model.specs.Network.{Network}
use Rattle.net_model.specs.Refusals.{IsNetwork}
use Rattle.route_core.specs.declared.entry.Entry.{Entry}
use Rattle.igp_theory.specs.Forwarding.{Usable, Uses, Steps}
use Rattle.igp_theory.specs.Migrations.{Migration, listed_migration}
use Rattle.igp_theory.specs.declared.phase.Phase.{Phase}
use Rattle.igp_theory.specs.declared.phase.Phase.TheVariants.{Old, Middle, New}

-- a router uses no entry for an address
abbrev pub UsesNone : Migration → ℕ → Phase → ℕ → Type 0
UsesNone move u phase a = (used : Usable) → Uses move u phase a used → ⊥

-- where neither Old nor New uses an entry, Middle uses none
abbrev pub MiddleUsesNone : Migration → Type 0
MiddleUsesNone move =
    (u a : ℕ) → UsesNone move u Old a → UsesNone move u New a → UsesNone move u Middle a

-- a router in Middle does with the packets of an address what it does in this phase: it uses the same
-- entry or none, and steps to the same hops
pub record MiddleActsAsIn (move : Migration) (u a : ℕ) (phase : Phase) : Type 0 where
  pub used : (used : Usable) → Uses move u Middle a used ↔ Uses move u phase a used
  pub steps : (h : ℕ) → Steps move u Middle a h ↔ Steps move u phase a h

-- over a network and tables that are lists of entries, it does what it does in Old, or what it does in New
abbrev pub MiddleActsAsOldOrNew : Type 0
MiddleActsAsOldOrNew =
    (net : Network) (old new : ℕ → List (Block × Entry)) (u a : ℕ) → IsNetwork net → u < length net →
    MiddleActsAsIn (listed_migration net old new) u a Old ⊎ MiddleActsAsIn (listed_migration net old new) u a New
