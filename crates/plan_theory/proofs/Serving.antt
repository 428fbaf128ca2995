-- What numbers owe to a migration. All that is proved of plans is proved from it.
use Rattle.std.proofs.Common.{◌≡◌, ℕ, ◌+◌, ◌<◌, ◌↔◌, List, length, map}
use Rattle.order_core.specs.Rankings.{IsRanking, KeepsPairs, rank_of}
use Rattle.order_core.specs.declared.turn.Turn.{Turn}
use Rattle.igp_theory.specs.Changes.{Change}
use Rattle.igp_theory.specs.Loops.{IsTag}
use Rattle.igp_theory.specs.Migrations.{Migration}
use Rattle.igp_theory.specs.TimetableLaws.{SwitchesIn}
use Rattle.igp_theory.specs.Timetables.{IsTimetable, IsRun}
use Rattle.order_search.specs.Meanings.{Meaning}
use Rattle.plan_theory.specs.Ranked.{Ranked}
use Rattle.plan_theory.specs.WavesMeaning.{IsGoodRanking, IsToldFor, LoopFor}

-- a turn of a number, by its router
abbrev pub at_router : (ℕ → ℕ) → Turn → Turn
at_router router turn = record { router = router turn.router; tag = turn.tag }

-- a list of changes has a ranking: the list is the only run of its timetable
pub record IsRankedAlone (move : Migration) (r : Ranked) (run : List Change) : Type 0 where
  pub ranks : List ℕ
  pub waves : IsRanking r.size ranks
  pub keeps : KeepsPairs ranks r.base
  pub only : (other : List Change) → IsRun (length move.net) (r.times ranks) other → other ≡ run

-- each number has a router; a turn that names its number for an address names the one of its router, whose step is switched in
-- the wave of that number; a ranking that keeps the base has a timetable; and each list of changes has its ranking
pub record Serves (move : Migration) (r : Ranked) : Type 0 where
  pub router : ℕ → ℕ
  pub ring_is : (turns : List Turn) → r.ring turns ≡ map (at_router router) turns
  pub inside : (a : ℕ) (t : Turn) → r.names a t → router t.router < length move.net → t.router < r.size
  pub one : (a : ℕ) (s t : Turn) → r.names a s → r.names a t → router s.router ≡ router t.router → s.router ≡ t.router
  pub table : (ranks : List ℕ) → IsRanking r.size ranks → KeepsPairs ranks r.base → IsTimetable (length move.net) move.start (r.times ranks)
  pub switched : (ranks : List ℕ) (a : ℕ) (t : Turn) (next : ℕ) → IsTimetable (length move.net) move.start (r.times ranks) → r.names a t →
      IsTag move a (at_router router t) next → SwitchesIn move (r.times ranks) a (at_router router t) next (rank_of ranks t.router + 1)
  pub ranked : (run : List Change) → r.lists run → IsRankedAlone move r run

-- what is asked of a network says what the numbers say
pub record Asks (move : Migration) (r : Ranked) (m : Meaning) : Type 0 where
  pub size : m.size ≡ r.size
  pub base : m.base ≡ r.base
  pub good : (ranks : List ℕ) → m.good ranks ↔ IsGoodRanking move r ranks
  pub real : (a : ℕ) (turns : List Turn) → m.real a turns ↔ LoopFor move r a turns
  pub picked : (ranks : List ℕ) (a : ℕ) (turns : List Turn) → m.picked ranks a turns ↔ IsToldFor move r ranks a turns
