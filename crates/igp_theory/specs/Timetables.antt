-- When the changes of a migration are made: some before it begins, the others wave by wave, those of a wave in any
-- interleaving (Vanbever et al., SIGCOMM 2011, on the two changes of a router).
use Rattle.std.specs.Prelude.{◌≡◌, ◌≢◌, ℕ, ◌+◌, ◌<◌, ◌≤◌, ◌↔◌, Bool, true, false, nat_lt, if◌then◌else◌, List, [], ◌∷◌, length, take, map, Contains}
use Rattle.std.specs.Prelude.{AllPairs}
use Rattle.std.specs.List.{flat_map}
use Rattle.order_core.specs.Rankings.{rank_of}
use Rattle.igp_theory.specs.Changes.{Change, first, second, changed}
use Rattle.igp_theory.specs.Migrations.{Migration}
use Rattle.igp_theory.specs.Phases.{State, made_in}
use Rattle.igp_theory.specs.States.{IsSound, changes_on, phase_after}
use Rattle.igp_theory.specs.declared.phase.Phase.{Phase}
use Rattle.igp_theory.specs.declared.phase.Phase.TheVariants.{Old, Middle, New}

-- Phases in their order

-- whether a change is made in a phase of its router
abbrev pub is_made : Phase → Change → Bool
is_made Old c = false
is_made New c = true
is_made Middle (first u) = true
is_made Middle (second u) = false

-- a phase from one on, up to another
pub record IsBetweenPhases (one other phase : Phase) : Type 0 where
  pub from : made_in one ≤ made_in phase
  pub upto : made_in phase ≤ made_in other

-- Timetables

-- the number of each change's wave, counted from 1; 0 is that of a change that is made before the migration begins
abbrev pub Timetable : Type 0
Timetable = Change → ℕ

-- the state in which wave w begins: the changes of the waves before it are made, and those that are made at the start. It is
-- the one in which the wave before ends
abbrev pub state_before : Timetable → ℕ → State
state_before time w u = if nat_lt (time (second u)) w then New else if nat_lt (time (first u)) w then Middle else Old

-- a timetable of n routers from a start: no router's second change stands in an earlier wave than its first, and before the
-- first wave each router is in its phase of the start
pub record IsTimetable (n : ℕ) (start : State) (time : Timetable) : Type 0 where
  pub in_order : (u : ℕ) → time (first u) ≤ time (second u)
  pub begins : (u : ℕ) → u < n → state_before time 1 u ≡ start u

-- in a run c may stand before d: it is another change, its wave isn't a later one, and it isn't a router's second change
-- with d the first
pub record MayPrecede (time : Timetable) (c d : Change) : Type 0 where
  pub other : c ≢ d
  pub wave : time c ≤ time d
  pub half : (u : ℕ) → c ≡ second u → d ≢ first u

-- a change of one of n routers that isn't made at the start
abbrev pub IsLeft : ℕ → Timetable → Change → Type 0
IsLeft n time c = (changed c < n) × (0 < time c)

-- a run: a list of all changes that are left, each once, none before one of an earlier wave, and the first change of a router
-- before its second
pub record IsRun (n : ℕ) (time : Timetable) (run : List Change) : Type 0 where
  pub all : (c : Change) → Contains run c ↔ IsLeft n time c
  pub in_turn : AllPairs (MayPrecede time) run

-- the state after some changes, from a start
abbrev pub state_after : State → List Change → State
state_after start changes u = phase_after (made_in (start u) + changes_on u (map changed changes))

-- a state of a timetable: the start after the first k changes of one of its runs
pub record IsStateOf (n : ℕ) (start : State) (time : Timetable) (state : State) : Type 0 where
  pub run : List Change
  pub is_run : IsRun n time run
  pub k : ℕ
  pub after : (u : ℕ) → u < n → state u ≡ state_after start (take k run) u

-- a state between two others, of n routers: each is in a phase from that of the one up to that of the other
abbrev pub IsBetweenStates : ℕ → State → State → State → Type 0
IsBetweenStates n one other state = (u : ℕ) → u < n → IsBetweenPhases (one u) (other u) (state u)

-- a state of wave w is one between that in which the wave begins and that in which it ends
abbrev pub IsStateOfWave : ℕ → Timetable → ℕ → State → Type 0
IsStateOfWave n time w = IsBetweenStates n (state_before time w) (state_before time (w + 1))

-- a migration is sound throughout where all states of its timetable are sound
pub record IsSoundThroughout (move : Migration) (time : Timetable) : Type 0 where
  pub table : IsTimetable (length move.net) move.start time
  pub sound : (state : State) → IsStateOf (length move.net) move.start time state → IsSound move state

-- The timetables of rankings

-- routers are ranked: each makes in its wave the changes that it hasn't made at the start
abbrev pub router_times : State → List ℕ → Timetable
router_times start ranks c = if is_made (start (changed c)) c then 0 else rank_of ranks (changed c) + 1

-- changes are ranked: the first change of router u is the number 2 u, the second 2 u + 1
abbrev pub change_number : Change → ℕ
change_number (first u) = u + u
change_number (second u) = u + u + 1

abbrev pub change_times : List ℕ → Timetable
change_times ranks c = rank_of ranks (change_number c) + 1

-- the changes that are left in a phase, and the run along an order of routers, each making its rest at once
abbrev pub left_in : Phase → ℕ → List Change
left_in Old u = first u ∷ second u ∷ []
left_in Middle u = second u ∷ []
left_in New u = []

abbrev pub run_from : State → List ℕ → List Change
run_from start order = flat_map (λ u. left_in (start u) u) order
