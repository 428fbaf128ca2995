-- States that give each router of the network one phase are sound alike.
use Rattle.std.proofs.lemmas.Grind.{common_steps}
use Rattle.std.proofs.Common.{◌≡◌, ℕ, ◌<◌, ◌≤◌, ◌∷◌, length, arith, sym, subst}
use Rattle.igp_theory.specs.Forwarding.{Steps, HasStep}
use Rattle.igp_theory.specs.Migrations.{Migration}
use Rattle.igp_theory.specs.Phases.{State}
use Rattle.igp_theory.specs.States.{StepsIn, IsSoundAt, IsSound}
use Rattle.igp_theory.specs.declared.phase.Phase.{Phase}
use Rattle.igp_theory.proofs.SameTables.{follows_over}

-- two states give each router below n one phase
abbrev pub AreAlike : ℕ → State → State → Type 0
AreAlike n one other = (u : ℕ) → u < n → one u ≡ other u

pub alike_sym : {n : ℕ} {one other : State} → AreAlike n one other → AreAlike n other one
alike_sym alike u below = sym (alike u below)

pub steps_alike : {move : Migration} {one other : State} {a : ℕ} → AreAlike (length move.net) one other → (u h : ℕ) →
    StepsIn move one a u h → StepsIn move other a u h
steps_alike {move} {a = a} alike u h steps =
    subst (λ (phase : Phase). Steps move u phase a h) (alike u steps.must.router) steps

pub sound_at_alike : {move : Migration} {one other : State} {a : ℕ} → AreAlike (length move.net) one other →
    IsSoundAt move one a → IsSoundAt move other a
sound_at_alike {move} {one} {other} {a} alike sound = record {
  forwards = λ u must. subst (λ (phase : Phase). HasStep move u phase a) (alike u must.router) (sound.forwards u must);
  returns_never = λ u h hops follows.
      sound.returns_never u h hops (follows_over (steps_alike (alike_sym alike)) u (h ∷ hops) u follows);
}

pub sound_alike : {move : Migration} {one other : State} → AreAlike (length move.net) one other →
    IsSound move one → IsSound move other
sound_alike alike sound a address = sound_at_alike alike (sound a address)

-- a network without a router has sound states alone
pub empty_is_sound : (move : Migration) (state : State) → length move.net ≤ 0 → IsSound move state
empty_is_sound move state none a address = grind (arith, common_steps)
