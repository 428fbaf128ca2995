-- What is typed is what was proved: what counts at a router by the distances of its configuration alone.
use Rattle.std.specs.Prelude.{◌≡◌, ◌≢◌, ℕ, ◌+◌, ◌↔◌, List, [], ◌∷◌, IsSome, IsTrue, Contains}
use Rattle.net_addr.specs.Addresses.{Block}
use Rattle.net_model.specs.Configuration.{Configuration}
use Rattle.net_model.specs.Network.{Network, HasConfiguration, Connected}
use Rattle.net_model.specs.OffStarts.{StartsOff}
use Rattle.net_model.specs.declared.bounds.TheConstants.{MOST_DISTANCE}
use Rattle.net_model.specs.declared.interface.Interface.{Interface}
use Rattle.route_core.specs.declared.entry.Entry.{Entry}
use Rattle.igp_theory.specs.Forwarding.{Usable, connected, of_old, of_new, Counts}
use Rattle.igp_theory.specs.Isis.{IsisEntry}
use Rattle.igp_theory.specs.Migrations.{ospf_to_isis}
use Rattle.igp_theory.specs.Ospf.{OspfEntry}
use Rattle.igp_theory.specs.Phases.{State}
use Rattle.igp_theory.specs.Routes.{HaveSameEntries}
use Rattle.ios_reader.specs.Texts.{ReadsText}
use Rattle.applied_changes.specs.AppliedTexts.{with_distances, in_phase}

-- at router u this entry for p counts, at this distance: a connected prefix at 0, an entry of OSPF at the distance of its
-- process, one of IS-IS at the distance of its process, each unless that is the greatest (administrative distance; nothing here
-- asks in which phase the router is)
pub data CountsByDistance (net : Network) (u : ℕ) (p : Block) : ℕ → Usable → Type 0 where
  connected_counts : Connected net u p → CountsByDistance net u p 0 connected
  ospf_counts : {distance : ℕ} {e : Entry} → (c : Configuration) → HasConfiguration net u c → IsSome c.process →
      c.distances.ospf ≡ distance → distance ≢ MOST_DISTANCE → OspfEntry net u p e → CountsByDistance net u p distance (of_old e)
  isis_counts : {distance : ℕ} {e : Entry} → (c : Configuration) → HasConfiguration net u c → IsTrue c.isis →
      c.distances.isis ≡ distance → distance ≢ MOST_DISTANCE → IsisEntry net u p e → CountsByDistance net u p distance (of_new e)

-- the configurations of a network in a state: those of the start with the lines of the changes that each router made by then
abbrev pub network_from : ℕ → State → Network → Network
network_from u state [] = []
network_from u state (c ∷ more) = in_phase (state u) c ∷ network_from (u + 1) state more

abbrev pub network_in : State → Network → Network
network_in state net = network_from 0 state net

-- ---- the tables read no distances ----

-- router u of another network has this configuration, but for its distances
pub record HasBarDistances (other : Network) (u : ℕ) (c : Configuration) : Type 0 where
  pub config : Configuration
  pub router : HasConfiguration other u config
  pub alike : with_distances 0 0 config ≡ with_distances 0 0 c

-- two networks are the same but for distances
pub record AreSameBarDistances (net other : Network) : Type 0 where
  pub there : (u : ℕ) (c : Configuration) → HasConfiguration net u c → HasBarDistances other u c
  pub back : (u : ℕ) (c : Configuration) → HasConfiguration other u c → HasBarDistances net u c

-- then their OSPF tables are the same, and their IS-IS tables
abbrev pub TablesReadNoDistances : Type 0
TablesReadNoDistances =
    (net other : Network) → AreSameBarDistances net other →
    HaveSameEntries net (OspfEntry net) (OspfEntry other) × HaveSameEntries net (IsisEntry net) (IsisEntry other)

-- ---- by the distances a router forwards as its phase says ----

-- OSPF runs on no interface of a router without a process
abbrev pub AreasHaveProcesses : Network → Type 0
AreasHaveProcesses net =
    (u : ℕ) (c : Configuration) (i : Interface) → HasConfiguration net u c → Contains c.interfaces i → IsSome i.area → IsSome c.process

-- so it is of configurations that were read from a text
abbrev pub ReadAreasHaveProcesses : Type 0
ReadAreasHaveProcesses =
    (text : List ℕ) (configurations : List Configuration) → ReadsText text configurations →
    (c : Configuration) → Contains configurations c → (i : Interface) → Contains c.interfaces i → IsSome i.area → IsSome c.process

-- from a network at its start, in each state, the entries that count at a router by the distances of the state's configurations
-- are those that count by its phase, at the same distances
abbrev pub DistancesTellPhases : Type 0
DistancesTellPhases =
    (net : Network) → AreasHaveProcesses net → ((u : ℕ) → StartsOff net u → ⊥) →
    (state : State) (u : ℕ) (p : Block) (distance : ℕ) (used : Usable) →
    Counts (ospf_to_isis net) u (state u) p distance used ↔ CountsByDistance (network_in state net) u p distance used
