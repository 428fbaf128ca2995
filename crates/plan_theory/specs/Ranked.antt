-- What is ranked: routers, or single changes. By its numbers a ranking makes a timetable, and the turns of a ring name
-- numbers (Vanbever et al., SIGCOMM 2011, on the two changes of a router).
use Rattle.std.specs.Prelude.{◌≡◌, ℕ, ◌*◌, ◌/◌, List, [], length, map}
use Rattle.order_core.specs.Orders.{IsOrder}
use Rattle.order_core.specs.Pairs.{Pair}
use Rattle.order_core.specs.Rankings.{numbers_below}
use Rattle.order_core.specs.declared.turn.Turn.{Turn}
use Rattle.igp_theory.specs.Changes.{Change, first, second, changed}
use Rattle.igp_theory.specs.LoopLaws.{BeginsOld}
use Rattle.igp_theory.specs.Migrations.{Migration}
use Rattle.igp_theory.specs.Phases.{State}
use Rattle.igp_theory.specs.TimetableLaws.{IsSwitch}
use Rattle.igp_theory.specs.Timetables.{Timetable, IsRun, router_times, change_number, change_times, run_from}
use Rattle.plan_theory.specs.declared.items.Items.{Items}
use Rattle.plan_theory.specs.declared.items.Items.TheVariants.{Routers, Changes}

-- what is ranked: how many numbers there are, the pairs that every ranking keeps, and the timetable of a ranking; the ring of
-- some turns, each by the router of its number; for an address, which number a turn has to name; and the lists of changes that
-- a wave list of ones writes
pub record Ranked : Type 1 where
  pub size : ℕ
  pub base : List Pair
  pub times : List ℕ → Timetable
  pub ring : List Turn → List Turn
  pub names : ℕ → Turn → Type 0
  pub lists : List Change → Type 0

-- Routers

-- the changes that are left at a start, along an order of n routers: each router makes its rest at once
pub record IsAlongOrder (n : ℕ) (start : State) (run : List Change) : Type 0 where
  pub order : List ℕ
  pub lists : IsOrder n order
  pub run_is : run ≡ run_from start order

-- a router's number is its own, and any turn names it
abbrev pub routers_ranked : Migration → Ranked
routers_ranked move = record {
  size = length move.net;
  base = [];
  times = router_times move.start;
  ring = λ turns. turns;
  names = λ address turn. Unit {0};
  lists = IsAlongOrder (length move.net) move.start;
}

-- Single changes

-- the first change of each of n routers before its second
abbrev pub change_base : ℕ → List Pair
change_base n = map (λ (u : ℕ). (change_number (first u), change_number (second u))) (numbers_below n)

-- a turn by the router of its change
abbrev pub by_router : Turn → Turn
by_router turn = record { router = turn.router / 2; tag = turn.tag }

-- a turn names the change from which on its router steps for an address as in New
pub record NamesSwitch (move : Migration) (address : ℕ) (turn : Turn) : Type 0 where
  pub change : Change
  pub named : turn.router ≡ change_number change
  pub switch : IsSwitch move (changed change) address change

-- all changes of n routers, each router's first before its second
abbrev pub ListsAllChanges : ℕ → List Change → Type 0
ListsAllChanges n = IsRun n (λ change. 1)

abbrev pub changes_ranked : Migration → Ranked
changes_ranked move = record {
  size = 2 * length move.net;
  base = change_base (length move.net);
  times = change_times;
  ring = map by_router;
  names = NamesSwitch move;
  lists = ListsAllChanges (length move.net);
}

-- Either

abbrev pub ranked : Items → Migration → Ranked
ranked Routers move = routers_ranked move
ranked Changes move = changes_ranked move

-- of n routers: how many numbers there are, and the pairs that every ranking keeps
abbrev pub size_of : Items → ℕ → ℕ
size_of Routers n = n
size_of Changes n = 2 * n

abbrev pub base_of : Items → ℕ → List Pair
base_of Routers n = []
base_of Changes n = change_base n

-- single changes are ranked where every router begins in Old
abbrev pub CanRank : Items → Migration → Type 0
CanRank Routers move = Unit {0}
CanRank Changes move = BeginsOld move
