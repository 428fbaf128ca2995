-- The way of a fault can be told: of the first fault of an order in its state, and of that of a timetable in its wave.
use Rattle.std.proofs.Common.{◌≡◌, ℕ, ◌+◌, ◌≤◌, ◌⊎◌, inl, inr, List, length, arith, refl, subst, sym}
use Rattle.order_core.specs.declared.turn.Tag.{Tag}
use Rattle.order_core.specs.declared.turn.Tag.TheVariants as tag
use Rattle.order_core.specs.declared.turn.Turn.{Turn}
use Rattle.igp_theory.specs.Forwarding.{Steps}
use Rattle.igp_theory.specs.LoopLaws.{BeginsOld}
use Rattle.igp_theory.specs.Loops.{Fault, IsFault, IsFirstFault, IsTag, IsTagOf, loop_arises, missing_step}
use Rattle.igp_theory.specs.Migrations.{Migration}
use Rattle.igp_theory.specs.Phases.{State, made_in}
use Rattle.igp_theory.specs.States.{StepsIn, state_of}
use Rattle.igp_theory.specs.Timetables.{IsStateOfWave, IsTimetable, Timetable}
use Rattle.igp_theory.specs.WaveFaults.{IsFaultOver, IsTimesFault, StepsInSome, loop_over_all, missing_in_one}
use Rattle.igp_theory.specs.declared.phase.Phase.{Phase}
use Rattle.igp_theory.specs.declared.phase.Phase.TheVariants.{Old, Middle, New}
use Rattle.igp_theory.proofs.LoopLaws.{later_step}
use Rattle.igp_theory.proofs.Phases.{step_of_ends}
use Rattle.igp_theory.proofs.Rings.{around_both, around_inside, around_of_routers, found_goes_round, some_turn}
use Rattle.igp_theory.proofs.SameTables.{around_ring_over}
use Rattle.igp_theory.proofs.Timetables.{made_grows}
use Rattle.explained_texts.specs.WayTexts.{IsFaultInSpan, StateSpan, goes_round, lacks_step, order_span, times_span, told_phase, turn_phase}

-- ---- the state of an order ----

told_alone : (state : State) (t : Tag) (u : ℕ) → told_phase (record { first = state; last = state }) t u ≡ state u
told_alone state tag.Old u = refl
told_alone state tag.New u = refl
told_alone state tag.Both u = refl

module _ (move : Migration) (state : State) where
  stands_in_state : (fault : Fault) → IsFault move state fault → IsFaultInSpan move (record { first = state; last = state }) fault
  stands_in_state fault (missing_step {a = a} {u = u} address below must lacks lowest) =
      lacks_step a u (state u) address must (record { from = omega arith; upto = omega arith }) lacks
  stands_in_state fault (loop_arises {a = a} {ring = ring} address below forwards found tags) =
      goes_round a ring address (some_turn ring found.lowest found.others found.first)
      (around_inside (λ (r s : Turn). StepsIn move state a r.router s.router)
      (λ (r s : Turn). Steps move r.router (turn_phase (record { first = state; last = state }) r) a s.router) ring
      (λ r s inside steps. subst (λ (phase : Phase). Steps move r.router phase a s.router)
      (sym (told_alone state r.tag r.router)) steps)
      (around_of_routers (StepsIn move state a) ring (found_goes_round found)))

pub order_stands : (move : Migration) (order : List ℕ) (k : ℕ) (fault : Fault) → IsFirstFault move order k fault →
    IsFaultInSpan move (order_span order k) fault
order_stands move order k fault first = stands_in_state move (state_of order k) fault first.here

-- ---- the states of a wave ----

-- a router steps to h when a wave begins or when it ends, and these are its phases there
module _ (move : Migration) (a u h : ℕ) where
  abbrev S : Phase → Type 0
  S phase = Steps move u phase a h

  -- where it steps so in Old alone it does when the wave begins
  old_told : (first last : Phase) → made_in first ≤ made_in last → S Old → ¬ S New → S first ⊎ S last → S first
  old_told first last upto old other (inl at) = at
  old_told Old last upto old other (inr at) = old
  old_told Middle Old upto old other (inr at) = absurd (omega (arith, upto))
  old_told Middle Middle upto old other (inr at) = at
  old_told Middle New upto old other (inr at) = absurd (other at)
  old_told New Old upto old other (inr at) = absurd (omega (arith, upto))
  old_told New Middle upto old other (inr at) = absurd (omega (arith, upto))
  old_told New New upto old other (inr at) = at

  -- where it does in New alone it does when the wave ends
  new_told : (first last : Phase) → made_in first ≤ made_in last → ¬ S Old → S New → S first ⊎ S last → S last
  new_told first last upto other new (inr at) = at
  new_told first New upto other new (inl at) = new
  new_told Old Old upto other new (inl at) = at
  new_told Middle Old upto other new (inl at) = absurd (omega (arith, upto))
  new_told New Old upto other new (inl at) = absurd (omega (arith, upto))
  new_told Old Middle upto other new (inl at) = absurd (other at)
  new_told Middle Middle upto other new (inl at) = at
  new_told New Middle upto other new (inl at) = absurd (omega (arith, upto))

  -- so it does in the phase that is told of it
  told_step : (span : StateSpan) (t : Tag) → made_in (span.first u) ≤ made_in (span.last u) → IsTagOf t (S Old) (S New) →
      S (span.first u) ⊎ S (span.last u) → S (told_phase span t u)
  told_step span tag.Old upto tags round = old_told (span.first u) (span.last u) upto tags.0 tags.1 round
  told_step span tag.New upto tags round = new_told (span.first u) (span.last u) upto tags.0 tags.1 round
  told_step span tag.Both upto tags round = later_step Old tags.0 tags.1 (span.first u) (omega arith)

module _ (move : Migration) (begins : BeginsOld move) (time : Timetable) (table : IsTimetable (length move.net) move.start time) (w : ℕ) where
  abbrev span : StateSpan
  span = times_span time w

  abbrev states : State → Type 0
  states = IsStateOfWave (length move.net) time w

  told_steps : (a : ℕ) (r s : Turn) → IsTag move a r s.router × StepsInSome move states a r.router s.router →
      Steps move r.router (turn_phase span r) a s.router
  told_steps a r s both =
      told_step move a r.router s.router span r.tag (made_grows table r.router w (w + 1) (omega arith))
      (subst (λ (phase : Phase). IsTagOf r.tag (Steps move r.router phase a s.router) (Steps move r.router New a s.router))
      (begins r.router) both.0.steps)
      (step_of_ends (span.first r.router) (span.last r.router) (both.1.state r.router)
      (both.1.among r.router both.1.steps.must.router) both.1.steps)

  stands_in_wave : (fault : Fault) → IsFaultOver move states fault → IsFaultInSpan move span fault
  stands_in_wave fault (missing_in_one {a = a} {u = u} least lacks lowest) =
      lacks_step a u (lacks.state u) least.address lacks.must (lacks.among u lacks.must.router) lacks.lacks
  stands_in_wave fault (loop_over_all {a = a} {ring = ring} least all found tags) =
      goes_round a ring least.address (some_turn ring found.lowest found.others found.first)
      (around_ring_over (told_steps a) ring
      (around_both (λ (r s : Turn). IsTag move a r s.router) (λ (r s : Turn). StepsInSome move states a r.router s.router) ring tags
      (around_of_routers (StepsInSome move states a) ring (found_goes_round found))))

pub times_stand : (move : Migration) (time : Timetable) (w : ℕ) (fault : Fault) → BeginsOld move → IsTimetable (length move.net) move.start time →
    IsTimesFault move time w fault → IsFaultInSpan move (times_span time w) fault
times_stand move time w fault begins table is = stands_in_wave move begins time table w fault is.here
