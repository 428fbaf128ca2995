-- The routers that a fault names are those of the network.
use Rattle.std.proofs.lemmas.Grind.{common_steps}
use Rattle.std.proofs.Common.{ℕ, zero, suc, ◌<◌, List, [], ◌∷◌, length, All, arith}
use Rattle.igp_theory.specs.Loops.{IsTagOf, IsTag, EachToNext, AroundRing, IsFault, missing_step, loop_arises}
use Rattle.igp_theory.specs.Migrations.{Migration}
use Rattle.igp_theory.specs.WaveFaults.{IsFaultOver, missing_in_one, loop_over_all}
use Rattle.igp_theory.specs.Forwarding.{Steps}
use Rattle.igp_theory.specs.declared.phase.Phase.TheVariants as phase
use Rattle.igp_theory.specs.Phases.{State}
use Rattle.order_core.specs.declared.turn.Tag.{Tag}
use Rattle.order_core.specs.declared.turn.Tag.TheVariants.{Old, New, Both}
use Rattle.order_core.specs.declared.turn.Turn.{Turn}
use Rattle.plan_theory.specs.Plans.{fault_told}
use Rattle.plan_theory.specs.declared.planned.EndFault.{EndFault}
use Rattle.plan_theory.specs.declared.planned.EndFault.TheVariants.{Loop, Missing}
use Rattle.migration_report.specs.EndTexts.{EndFaultBelow}

-- a list of one element more
All-cons : {X : Type 0} (P : X → Type 0) (x : X) (xs : List X) → P x → All P xs → All P (x ∷ xs)
All-cons P x xs first others zero d within = first
All-cons P x xs first others (suc k) d within = others k d (omega arith)

module _ (move : Migration) (a : ℕ) where
  -- a router with a tag is one of the network
  tag_within : (r : Turn) (next : ℕ) → IsTag move a r next → r.router < length move.net
  tag_within r next is = by_tag r.tag is.steps
    where
      by_tag : (t : Tag) → IsTagOf t (Steps move r.router (move.start r.router) a next) (Steps move r.router phase.New a next) → r.router < length move.net
      by_tag Old steps = steps.0.must.router
      by_tag New steps = steps.1.must.router
      by_tag Both steps = steps.0.must.router

  each_within : (first : Turn) (turns : List Turn) → EachToNext (λ (r s : Turn). IsTag move a r s.router) first turns
      → All (λ (turn : Turn). turn.router < length move.net) turns
  each_within first [] tags = λ k d within. absurd (omega arith)
  each_within first (turn ∷ []) tags =
      All-cons (λ (t : Turn). t.router < length move.net) turn [] (tag_within turn first.router tags) (λ k d within. absurd (omega arith))
  each_within first (turn ∷ next ∷ turns) tags =
      All-cons (λ (t : Turn). t.router < length move.net) turn (next ∷ turns) (tag_within turn next.router tags.0) (each_within first (next ∷ turns) tags.1)

  -- so are the routers of a ring with its tags
  around_within : (turns : List Turn) → AroundRing (λ (r s : Turn). IsTag move a r s.router) turns
      → All (λ (turn : Turn). turn.router < length move.net) turns
  around_within [] tags = λ k d within. absurd (omega arith)
  around_within (turn ∷ turns) tags = each_within turn (turn ∷ turns) tags

-- the routers that a fault of a state names are those of the network
loop_within : (move : Migration) (state : State) (a : ℕ) (turns : List Turn) → IsFault move state (fault_told (Loop a turns))
    → All (λ (turn : Turn). turn.router < length move.net) turns
loop_within move state a turns (loop_arises _ _ _ _ tags) = around_within move a turns tags

missing_within : (move : Migration) (state : State) (a u : ℕ) →
    IsFault move state (fault_told (Missing a u))
    → u < length move.net
missing_within move state a u (missing_step _ _ must _ _) = must.router

-- so what a fault tells is of the network's routers
pub fault_below : (move : Migration) (state : State) (fault : EndFault) → IsFault move state (fault_told fault) →
    EndFaultBelow (length move.net) fault
fault_below move state fault is = grind (arith, common_steps, loop_within, missing_within)

-- the same of the fault of a set of states, as that of a wave
loop_within_over : (move : Migration) (states : State → Type 0) (a : ℕ) (turns : List Turn) →
    IsFaultOver move states (fault_told (Loop a turns))
    → All (λ (turn : Turn). turn.router < length move.net) turns
loop_within_over move states a turns (loop_over_all _ _ _ tags) = around_within move a turns tags

missing_within_over : (move : Migration) (states : State → Type 0) (a u : ℕ)
    → IsFaultOver move states (fault_told (Missing a u)) → u < length move.net
missing_within_over move states a u (missing_in_one _ lacks _) = lacks.must.router

pub fault_over_below : (move : Migration) (states : State → Type 0) (fault : EndFault) → IsFaultOver move states (fault_told fault) →
    EndFaultBelow (length move.net) fault
fault_over_below move states (Loop a turns) is = loop_within_over move states a turns is
fault_over_below move states (Missing a u) is = missing_within_over move states a u is
