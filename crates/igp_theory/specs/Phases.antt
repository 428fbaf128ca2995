-- The phases of routers in their order, and states (Vanbever et al., SIGCOMM 2011).
use Rattle.std.specs.Prelude.{ℕ, List, slice_index_or}
use Rattle.igp_theory.specs.declared.phase.Phase.{Phase}
use Rattle.igp_theory.specs.declared.phase.Phase.TheVariants.{Old, Middle, New}

-- how many of a router's two changes are made in a phase
abbrev pub made_in : Phase → ℕ
made_in Old = 0
made_in Middle = 1
made_in New = 2

-- a state gives each router a phase
abbrev pub State : Type 0
State = ℕ → Phase

-- the state that gives each router the phase at its place, and Old where there is none
abbrev pub state_in : List Phase → State
state_in phases u = slice_index_or phases u Old

-- the ends of a move of all routers: the first state, in which every router is Old, and the last one, in which every router
-- is New
abbrev pub all_old : State
all_old u = Old

abbrev pub all_new : State
all_new u = New
