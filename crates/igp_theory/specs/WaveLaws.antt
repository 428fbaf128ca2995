-- What the laws of sound states and of wave lists say.
use Rattle.std.specs.Prelude.{◌≡◌, ℕ, ◌^◌, ◌<◌, ◌↔◌, ◌⊎◌, List, length, take}
use Rattle.net_addr.specs.Addresses.{Block}
use Rattle.net_model.specs.Network.{Network, Connected}
use Rattle.route_core.specs.declared.entry.Entry.{Entry}
use Rattle.igp_theory.specs.Changes.{Change}
use Rattle.igp_theory.specs.Forwarding.{IsTarget, HasStep}
use Rattle.igp_theory.specs.Isis.{IsisEntry}
use Rattle.igp_theory.specs.LoopLaws.{BeginsOld}
use Rattle.igp_theory.specs.Migrations.{Migration}
use Rattle.igp_theory.specs.Ospf.{OspfEntry}
use Rattle.igp_theory.specs.Routes.{Tables, EntryLeadsTo}
use Rattle.order_core.specs.Orders.{IsOrder}
use Rattle.order_core.specs.Rankings.{IsRanking, flat_of}
use Rattle.igp_theory.specs.Phases.{State, all_old}
use Rattle.igp_theory.specs.States.{StepsIn, Follows, IsSound, IsSeamless, state_of}
use Rattle.igp_theory.specs.Timetables.{IsRun, router_times, run_from, state_after}
use Rattle.igp_theory.specs.Waves.{AreSeamlessWaves, AreOnes, run_along}

-- What sound means

-- every hop of the entries of the network's routers is a router of the network
abbrev pub HopsAreRouters : Network → Tables → Type 0
HopsAreRouters net table =
    (u h : ℕ) (p : Block) (e : Entry) → u < length net → table u p e → EntryLeadsTo e h → h < length net

-- that is so of both protocols' tables
abbrev pub OspfHopsAreRouters : Type 0
OspfHopsAreRouters = (net : Network) → HopsAreRouters net (OspfEntry net)

abbrev pub IsisHopsAreRouters : Type 0
IsisHopsAreRouters = (net : Network) → HopsAreRouters net (IsisEntry net)

-- a state delivers packets for an address with the target p: from every router every list of steps is
-- shorter than the count of routers, and it has reached an originator or can be extended. So each packet
-- reaches an originator, whichever of the equal-cost hops it takes at each router
pub record Delivers (move : Migration) (state : State) (a : ℕ) (p : Block) : Type 0 where
  pub short : (u v : ℕ) (hops : List ℕ) → u < length move.net → Follows (StepsIn move state a) u hops v → length hops < length move.net
  pub onward : (u v : ℕ) (hops : List ℕ) → u < length move.net → Follows (StepsIn move state a) u hops v →
      Connected move.net v p ⊎ HasStep move v (state v) a

-- over tables whose hops are routers a state is sound exactly where it delivers the packets of every
-- address with a target
abbrev pub SoundStatesDeliver : Migration → Type 0
SoundStatesDeliver move =
    (state : State) → HopsAreRouters move.net move.old → HopsAreRouters move.net move.new →
    IsSound move state ↔ ((a : ℕ) (p : Block) → a < 2 ^ 32 → IsTarget move.net a p → Delivers move state a p)

-- Wave lists and orders

-- the flat run, in which each router makes its rest at once, is a run
abbrev pub FlatRunsAreRuns : Type 0
FlatRunsAreRuns =
    (n : ℕ) (start : State) (ranks : List ℕ) → IsRanking n ranks → IsRun n (router_times start ranks) (run_from start (flat_of ranks))

-- the states along an order are those of the order
abbrev pub StatesAlongAreThoseOfOrders : Type 0
StatesAlongAreThoseOfOrders =
    (order : List ℕ) (k u : ℕ) → state_after all_old (take k (run_along order)) u ≡ state_of order k u

-- where every router begins in Old a seamless wave list, written wave by wave in number order, is a seamless order
abbrev pub FlatOrdersAreSeamless : Migration → Type 0
FlatOrdersAreSeamless move =
    (ranks : List ℕ) → BeginsOld move → AreSeamlessWaves move ranks → IsSeamless move (flat_of ranks)

-- and a seamless order is a seamless wave list of ones
abbrev pub OrdersAreSeamlessWaves : Migration → Type 0
OrdersAreSeamlessWaves move =
    (order ranks : List ℕ) → BeginsOld move → IsSeamless move order → AreOnes order ranks →
    AreSeamlessWaves move ranks

-- each order is a wave list of ones, and as that it has one run
abbrev pub OrdersAreOnes : Type 0
OrdersAreOnes = (n : ℕ) (order : List ℕ) → IsOrder n order → (ranks : List ℕ) × AreOnes order ranks × IsRanking n ranks

abbrev pub OrdersHaveOneRun : Type 0
OrdersHaveOneRun =
    (n : ℕ) (order ranks : List ℕ) (run : List Change) → IsOrder n order → AreOnes order ranks →
    IsRun n (router_times all_old ranks) run → run ≡ run_along order
