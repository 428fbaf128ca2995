-- The texts of the configurations, with the lines of the changes made by then, read as the network of the state.
use Rattle.std.specs.Prelude.{ℕ, ◌↔◌, List, map}
use Rattle.net_addr.specs.Addresses.{Block}
use Rattle.net_model.specs.Configuration.{Configuration}
use Rattle.net_model.specs.Network.{Network}
use Rattle.net_model.specs.OffStarts.{StartsOff}
use Rattle.net_model.specs.Refusals.{IsNetworkOf}
use Rattle.igp_theory.specs.Forwarding.{Usable, Counts}
use Rattle.igp_theory.specs.Migrations.{ospf_to_isis}
use Rattle.igp_theory.specs.Phases.{State}
use Rattle.applied_changes.specs.AppliedTexts.{applied_text}
use Rattle.applied_changes.specs.NamedPhases.{phase_named}
use Rattle.isis_writer.specs.ReadTexts.{ReadsTexts}
use Rattle.typed_distances.specs.TypedDistances.{AreSameBarDistances, CountsByDistance}

-- the texts with the lines of the changes that each router has made in a state put before their `end` lines
abbrev pub typed_texts : Network → State → List (List ℕ) → List (List ℕ)
typed_texts net state texts = map (applied_text (phase_named net state)) texts

-- they read as configurations of a network that is the same but for distances, at each router of which the entries that count by
-- its distances alone are those that count by its phase in the state
pub record ReadForward (net : Network) (texts : List (List ℕ)) (state : State) : Type 0 where
  pub configs : List Configuration
  pub reads : ReadsTexts (typed_texts net state texts) configs
  pub typed : Network
  pub makes : IsNetworkOf configs typed
  pub alike : AreSameBarDistances net typed
  pub forwards : (u : ℕ) (p : Block) (distance : ℕ) (used : Usable) →
      CountsByDistance typed u p distance used ↔ Counts (ospf_to_isis net) u (state u) p distance used

-- so it is of texts that give a network at its start, in each state
abbrev pub TypedTextsForward : Type 0
TypedTextsForward =
    (texts : List (List ℕ)) (configs : List Configuration) (net : Network) → ReadsTexts texts configs → IsNetworkOf configs net →
    ((u : ℕ) → StartsOff net u → ⊥) → (state : State) → ReadForward net texts state
