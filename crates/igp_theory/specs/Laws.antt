-- What the laws of this crate say.
use Rattle.std.specs.Prelude.{◌≡◌, ℕ, ◌<◌, ◌↔◌, ◌⊎◌, Some, List, length}
use Rattle.net_addr.specs.Addresses.{Block}
use Rattle.net_model.specs.Network.{Network, UpInterface, IsBorderRouter, Adjacent}
use Rattle.net_model.specs.declared.interface.Interface.{Interface}
use Rattle.net_model.specs.declared.zone.Zone.TheVariants.{Area, One, Two}
use Rattle.walk_core.specs.Walks.{Arcs, LeastCost}
use Rattle.walk_core.specs.Offers.{Offers, BestCost}
use Rattle.route_core.specs.declared.entry.Entry.{Entry}
use Rattle.route_core.specs.declared.entry.Entry.TheVariants.{Discard}
use Rattle.order_core.specs.declared.turn.Turn.{Turn}
use Rattle.igp_theory.specs.Forwarding.{Usable, Uses, Steps}
use Rattle.igp_theory.specs.Loops.{IsLoop, Arises, Fault, missing, loop, IsFault, IsFirstFault}
use Rattle.igp_theory.specs.Migrations.{Migration, retabled}
use Rattle.igp_theory.specs.Routes.{Tables, EntryLeadsTo, HaveSameEntries}
use Rattle.igp_theory.specs.Phases.{State}
use Rattle.igp_theory.specs.States.{IsSoundAt, IsSound, IsSeamless}
use Rattle.igp_theory.specs.declared.phase.Phase.{Phase}
use Rattle.igp_theory.specs.Ospf.{IntraAreaCost, BorderCost, InterAreaCost, OspfEntry}
use Rattle.igp_theory.specs.Isis.{IsisEntry}

-- Costs

-- there is at most one least cost from u to v
abbrev pub LeastCostsAreUnique : Arcs → Type 0
LeastCostsAreUnique arc =
    (u v c d : ℕ) → LeastCost arc u v c → LeastCost arc u v d → c ≡ d

-- some offers have at most one best cost at u
abbrev pub BestCostsAreUnique : Arcs → Offers → Type 0
BestCostsAreUnique arc offer =
    (u c d : ℕ) → BestCost arc offer u c → BestCost arc offer u d → c ≡ d

-- a network keeps one area for each subnet: up interfaces of one subnet that run OSPF run it in one area
abbrev pub KeepsOneArea : Network → Type 0
KeepsOneArea net =
    (u v : ℕ) (i j : Interface) (p : Block) (m n : ℕ) → UpInterface net u i → UpInterface net v j →
    i.subnet ≡ Some p → j.subnet ≡ Some p → i.area ≡ Some m → j.area ≡ Some n → m ≡ n

-- in such a network the intra-area routes of a prefix are of one area
abbrev pub IntraAreasAreUnique : Type 0
IntraAreasAreUnique =
    (net : Network) (p : Block) (u v m n c d : ℕ) → KeepsOneArea net →
    IntraAreaCost net m p u c → IntraAreaCost net n p v d → m ≡ n

-- in such a network a prefix has at most one intra-area cost at a router, over all areas
abbrev pub IntraAreaCostsAreUnique : Type 0
IntraAreaCostsAreUnique =
    (net : Network) (p : Block) (u m n c d : ℕ) → KeepsOneArea net →
    IntraAreaCost net m p u c → IntraAreaCost net n p u d → c ≡ d

-- in any network a prefix has at most one inter-area cost at a router, which listens to one area alone
abbrev pub InterAreaCostsAreUnique : Type 0
InterAreaCostsAreUnique =
    (net : Network) (p : Block) (u c d : ℕ) →
    InterAreaCost net p u c → InterAreaCost net p u d → c ≡ d

-- at a border router what it costs over the backbone is its inter-area cost, which other areas hear of
abbrev pub BorderCostsAreInterArea : Type 0
BorderCostsAreInterArea =
    (net : Network) (p : Block) (u c : ℕ) → IsBorderRouter net u →
    BorderCost net p u c ↔ InterAreaCost net p u c

-- Entries. That a subnet has one area isn't needed for them: a route's hops are one list in any network

-- a router has at most one OSPF entry for a prefix
abbrev pub OspfEntriesAreUnique : Type 0
OspfEntriesAreUnique =
    (net : Network) (u : ℕ) (p : Block) (e f : Entry) →
    OspfEntry net u p e → OspfEntry net u p f → e ≡ f

-- a router has at most one IS-IS entry for a prefix
abbrev pub IsisEntriesAreUnique : Type 0
IsisEntriesAreUnique =
    (net : Network) (u : ℕ) (p : Block) (e f : Entry) →
    IsisEntry net u p e → IsisEntry net u p f → e ≡ f

-- u reaches h over an adjacency of OSPF, in some area
pub record IsOspfNeighbor (net : Network) (u h : ℕ) : Type 0 where
  pub area : ℕ
  pub cost : ℕ
  pub adjacent : Adjacent net (Area area) u h cost

-- u reaches h over an adjacency of IS-IS, in level 1 or in level 2
pub record IsIsisNeighbor (net : Network) (u h : ℕ) : Type 0 where
  pub cost : ℕ
  pub adjacent : Adjacent net One u h cost ⊎ Adjacent net Two u h cost

-- every hop of an OSPF entry is adjacent to its router in some area
abbrev pub OspfHopsAreNeighbors : Type 0
OspfHopsAreNeighbors =
    (net : Network) (u h : ℕ) (p : Block) (e : Entry) →
    OspfEntry net u p e → EntryLeadsTo e h → IsOspfNeighbor net u h

-- every hop of an IS-IS entry is adjacent to its router in level 1 or in level 2
abbrev pub IsisHopsAreNeighbors : Type 0
IsisHopsAreNeighbors =
    (net : Network) (u h : ℕ) (p : Block) (e : Entry) →
    IsisEntry net u p e → EntryLeadsTo e h → IsIsisNeighbor net u h

-- the entry forwards somewhere
abbrev pub Forwards : Entry → Type 0
Forwards e = (h : ℕ) × EntryLeadsTo e h

-- an OSPF entry forwards somewhere or is a discard
abbrev pub OspfEntriesForward : Type 0
OspfEntriesForward =
    (net : Network) (u : ℕ) (p : Block) (e : Entry) →
    OspfEntry net u p e → Forwards e ⊎ (e ≡ Discard)

-- every IS-IS entry forwards somewhere
abbrev pub IsisEntriesForward : Type 0
IsisEntriesForward =
    (net : Network) (u : ℕ) (p : Block) (e : Entry) → IsisEntry net u p e → Forwards e

-- Tables with the same entries

-- at the routers of the network two pairs of tables have the same entries
pub record HaveSameTables (move : Migration) (other_old other_new : Tables) : Type 0 where
  pub same_old : HaveSameEntries move.net move.old other_old
  pub same_new : HaveSameEntries move.net move.new other_new

-- then each router uses for an address the same entry
abbrev pub SameUsedEntries : Migration → Tables → Tables → Type 0
SameUsedEntries move other_old other_new =
    (u a : ℕ) (phase : Phase) (used : Usable) → HaveSameTables move other_old other_new →
    u < length move.net → Uses move u phase a used ↔ Uses (retabled move other_old other_new) u phase a used

-- and steps to the same hops
abbrev pub SameSteps : Migration → Tables → Tables → Type 0
SameSteps move other_old other_new =
    (u a h : ℕ) (phase : Phase) → HaveSameTables move other_old other_new →
    Steps move u phase a h ↔ Steps (retabled move other_old other_new) u phase a h

-- the same states are sound
abbrev pub SameSoundStates : Migration → Tables → Tables → Type 0
SameSoundStates move other_old other_new =
    (state : State) → HaveSameTables move other_old other_new →
    IsSound move state ↔ IsSound (retabled move other_old other_new) state

-- the same orders are seamless
abbrev pub SameSeamlessOrders : Migration → Tables → Tables → Type 0
SameSeamlessOrders move other_old other_new =
    (order : List ℕ) → HaveSameTables move other_old other_new →
    IsSeamless move order ↔ IsSeamless (retabled move other_old other_new) order

-- the network has the same loops
abbrev pub SameLoops : Migration → Tables → Tables → Type 0
SameLoops move other_old other_new =
    (a : ℕ) (ring : List Turn) → HaveSameTables move other_old other_new →
    IsLoop move a ring ↔ IsLoop (retabled move other_old other_new) a ring

-- the same loops arise in a state
abbrev pub SameArisingLoops : Migration → Tables → Tables → Type 0
SameArisingLoops move other_old other_new =
    (state : State) (a : ℕ) (ring : List Turn) → HaveSameTables move other_old other_new →
    Arises move state a ring ↔ Arises (retabled move other_old other_new) state a ring

-- a state has the same faults
abbrev pub SameFaults : Migration → Tables → Tables → Type 0
SameFaults move other_old other_new =
    (state : State) (fault : Fault) → HaveSameTables move other_old other_new →
    IsFault move state fault ↔ IsFault (retabled move other_old other_new) state fault

-- an order has the same first fault
abbrev pub SameFirstFaults : Migration → Tables → Tables → Type 0
SameFirstFaults move other_old other_new =
    (order : List ℕ) (k : ℕ) (fault : Fault) → HaveSameTables move other_old other_new →
    IsFirstFault move order k fault ↔ IsFirstFault (retabled move other_old other_new) order k fault

-- Faults

-- the address of a fault
abbrev pub fault_address : Fault → ℕ
fault_address (missing a u) = a
fault_address (loop a ring) = a

-- a state that has a fault isn't sound for the fault's address, and so isn't sound
abbrev pub FaultsAreUnsound : Migration → Type 0
FaultsAreUnsound move =
    (state : State) (fault : Fault) → IsFault move state fault →
    (IsSoundAt move state (fault_address fault) → ⊥) × (IsSound move state → ⊥)

-- an order that has a first fault isn't seamless. The number of the fault isn't bounded here: once all
-- changes are made the state stays the last one
abbrev pub FirstFaultsAreUnsound : Migration → Type 0
FirstFaultsAreUnsound move =
    (order : List ℕ) (k : ℕ) (fault : Fault) → IsFirstFault move order k fault →
    IsSeamless move order → ⊥

-- a state has at most one fault
abbrev pub FaultsAreUnique : Migration → Type 0
FaultsAreUnique move =
    (state : State) (fault other : Fault) →
    IsFault move state fault → IsFault move state other → fault ≡ other

-- an order has at most one first fault: one number and one fault
abbrev pub FirstFaultsAreUnique : Migration → Type 0
FirstFaultsAreUnique move =
    (order : List ℕ) (k j : ℕ) (fault other : Fault) →
    IsFirstFault move order k fault → IsFirstFault move order j other → (k ≡ j) × (fault ≡ other)
