-- Sound states, the states of an order, seamless orders (Vanbever et al., SIGCOMM 2011).
use Rattle.std.specs.Prelude.{◌≡◌, ℕ, zero, suc, ◌+◌, ◌*◌, ◌^◌, ◌<◌, ◌≤◌, ◌==◌, if◌then◌else◌, List, [], ◌∷◌}
use Rattle.std.specs.Prelude.{length, take}
use Rattle.order_core.specs.Orders.{IsOrder}
use Rattle.igp_theory.specs.Forwarding.{MustForward, Steps, HasStep}
use Rattle.igp_theory.specs.Migrations.{Migration}
use Rattle.igp_theory.specs.Phases.{State}
use Rattle.igp_theory.specs.declared.phase.Phase.{Phase}
use Rattle.igp_theory.specs.declared.phase.Phase.TheVariants.{Old, Middle, New}

-- the steps of a state, for one address
abbrev pub StepsIn : Migration → State → ℕ → ℕ → ℕ → Type 0
StepsIn move state a u h = Steps move u (state u) a h

-- a list of steps leads from u over these routers, the last of them v
abbrev pub Follows : (ℕ → ℕ → Type 0) → ℕ → List ℕ → ℕ → Type 0
Follows step u [] v = u ≡ v
Follows step u (h ∷ hops) v = step u h × Follows step h hops v

-- a state is sound for an address: each router that has to pass packets on has a step, and no
-- non-empty list of steps returns to its first router
pub record IsSoundAt (move : Migration) (state : State) (a : ℕ) : Type 0 where
  pub forwards : (u : ℕ) → MustForward move.net a u → HasStep move u (state u) a
  pub returns_never : (u h : ℕ) (hops : List ℕ) → Follows (StepsIn move state a) u (h ∷ hops) u → ⊥

-- a state is sound where it is sound for every address
abbrev pub IsSound : Migration → State → Type 0
IsSound move state = (a : ℕ) → a < 2 ^ 32 → IsSoundAt move state a

-- the changes of an order, each told by the router that it is made on: router by router two, of
-- which the first sets the distance of IS-IS to 115 and the second that of OSPF to 255
abbrev pub changes_of : List ℕ → List ℕ
changes_of [] = []
changes_of (u ∷ order) = u ∷ u ∷ changes_of order

-- how many of some changes are made on router u
abbrev pub changes_on : ℕ → List ℕ → ℕ
changes_on u [] = 0
changes_on u (v ∷ changes) = (if u == v then 1 else 0) + changes_on u changes

-- the phase of a router after this many of its changes
abbrev pub phase_after : ℕ → Phase
phase_after zero = Old
phase_after (suc zero) = Middle
phase_after (suc (suc _)) = New

-- state k of an order: every router was Old, and the first k changes are made
abbrev pub state_of : List ℕ → ℕ → State
state_of order k u = phase_after (changes_on u (take k (changes_of order)))

-- an order is seamless where all its states are sound
pub record IsSeamless (move : Migration) (order : List ℕ) : Type 0 where
  pub lists : IsOrder (length move.net) order
  pub sound : (k : ℕ) → k ≤ 2 * length order → IsSound move (state_of order k)
