-- What a tree is judged over: mixed forwarding from the phases of a start.
use Rattle.std.specs.Prelude.{ℕ, List}
use Rattle.net_addr.specs.Addresses.{Block}
use Rattle.route_core.specs.declared.entry.Entry.{Entry}
use Rattle.igp_theory.specs.Migrations.{Migration, started}
use Rattle.igp_theory.specs.Phases.{state_in}
use Rattle.igp_theory.specs.declared.phase.Phase.{Phase}
use Rattle.rib_mix.specs.Mixture.{Mixture, migration_of}

-- the migration of a mixture from a start
abbrev pub started_of : {O N : Type 0} → (O → ℕ → List (Block × Entry)) → (N → ℕ → List (Block × Entry)) → Mixture O N → List Phase → Migration
started_of old new m start = started (state_in start) (migration_of old new m)
