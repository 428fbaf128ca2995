-- Loops wave by wave: a ring over all states of a wave arises in one of them.
use Rattle.std.proofs.Common.{arith}
use Rattle.std.proofs.lemmas.Grind.{common_steps}
use Rattle.std.proofs.Common.{◌≡◌, ◌≢◌, ℕ, ◌+◌, ◌<◌, ◌≤◌, ◌⊎◌, inl, inr, List, [], ◌∷◌, length, AllPairs, refl, sym, ◌∙◌, subst}
use Rattle.std.proofs.lemmas.Bool.{cases_eq}
use Rattle.order_core.specs.Orders.{AreDistinct}
use Rattle.order_core.specs.Turns.{routers_of}
use Rattle.order_core.specs.declared.turn.Tag.{Tag}
use Rattle.order_core.specs.declared.turn.Tag.TheVariants as tag
use Rattle.order_core.specs.declared.turn.Turn.{Turn}
use Rattle.igp_theory.specs.Forwarding.{Steps}
use Rattle.igp_theory.specs.Loops.{IsTagOf, IsTag, EachToNext}
use Rattle.igp_theory.specs.Migrations.{Migration}
use Rattle.igp_theory.specs.Phases.{State}
use Rattle.igp_theory.specs.States.{StepsIn, Follows}
use Rattle.igp_theory.specs.TimetableLaws.{StepsRound, GoesRound, ArisesInWave, SwitchesIn}
use Rattle.igp_theory.specs.Timetables.{Timetable, IsTimetable, IsBetweenPhases, IsStateOfWave, state_before}
use Rattle.igp_theory.specs.WaveFaults.{StepsInSome, IsUnsoundInSome}
use Rattle.igp_theory.specs.declared.phase.Phase.{Phase}
use Rattle.igp_theory.specs.declared.phase.Phase.TheVariants.{New}
use Rattle.net_model.proofs.Members.{Contains-map}
use Rattle.igp_theory.proofs.LoopLaws.{later_step}
use Rattle.igp_theory.proofs.OrderedLists.{pairs_none, pairs_more, pairs_first, pairs_rest}
use Rattle.igp_theory.proofs.Phases.{step_of_ends}
use Rattle.igp_theory.proofs.Rings.{each_to_routers, each_inside, around_inside, ring_returns, StepRing, ring_of_return, around_of_routers}
use Rattle.igp_theory.proofs.Timetables.{first_of_wave, last_of_wave, start_first}

-- Over every hop of some states

-- states that allow each router its phases, whatever the others are in
abbrev pub AllowEach : ℕ → (ℕ → Phase → Type 0) → State → Type 0
AllowEach n Allows state = (u : ℕ) → u < n → Allows u (state u)

-- one of them in which each of some routers steps to the next
pub record StepsAlong (move : Migration) (Allows : ℕ → Phase → Type 0) (a first : ℕ) (routers : List ℕ) : Type 0 where
  pub state : State
  pub among : AllowEach (length move.net) Allows state
  pub goes : EachToNext (StepsIn move state a) first routers

-- one of two phases, by which of two facts holds
abbrev pick : {P Q : Type 0} → P ⊎ Q → Phase → Phase → Phase
pick (inl here) one other = one
pick (inr there) one other = other

pick_first : {P Q : Type 0} (either : P ⊎ Q) (one other : Phase) → (Q → ⊥) → pick either one other ≡ one
pick_first either one other not = grind (arith, common_steps)

pick_second : {P Q : Type 0} (either : P ⊎ Q) (one other : Phase) → (P → ⊥) → pick either one other ≡ other
pick_second either one other not = grind (arith, common_steps)

abbrev put : ℕ → Phase → State → State
put u phase state v = pick (cases_eq v u) phase (state v)

put_among : {n : ℕ} (Allows : ℕ → Phase → Type 0) (u : ℕ) (one state : State) → AllowEach n Allows one → AllowEach n Allows state →
    AllowEach n Allows (put u (one u) state)
put_among Allows u one state is_one is v below = by (cases_eq v u)
  where
    by : (either : (v ≡ u) ⊎ (v ≡ u → ⊥)) → Allows v (pick either (one u) (state v))
    by (inl same) = subst (λ w. Allows v (one w)) same (is_one v below)
    by (inr apart) = is v below

module _ (move : Migration) (Allows : ℕ → Phase → Type 0) (a : ℕ) where
  pub steps_along : (base : State) → AllowEach (length move.net) Allows base → (first : ℕ) (routers : List ℕ) → AreDistinct routers →
      EachToNext (StepsInSome move (AllowEach (length move.net) Allows) a) first routers → StepsAlong move Allows a first routers
  steps_along base is first [] distinct goes = record { state = base; among = is; goes = tt }
  steps_along base is first (u ∷ []) distinct goes = record { state = goes.state; among = goes.among; goes = goes.steps }
  steps_along base is first (u ∷ v ∷ rest) distinct goes =
      let others : StepsAlong move Allows a first (v ∷ rest) = steps_along base is first (v ∷ rest) (pairs_rest (λ x y. x ≢ y) u (v ∷ rest) distinct) goes.1 in
      let state : State = put u (goes.0.state u) others.state in
      record {
        state = state;
        among = put_among Allows u goes.0.state others.state goes.0.among others.among;
        goes = (
          subst (λ (phase : Phase). Steps move u phase a v)
              (sym (pick_first (cases_eq u u) (goes.0.state u) (others.state u) (λ apart. apart refl))) goes.0.steps,
          each_inside (StepsIn move others.state a) (StepsIn move state a) first (v ∷ rest)
              (λ x y inside steps. subst (λ (phase : Phase). Steps move x phase a y)
              (sym (pick_second (cases_eq x u) (goes.0.state u) (others.state x)
              (λ same. pairs_first (λ p q. p ≢ q) u (v ∷ rest) distinct x inside (sym same)))) steps)
              others.goes,
        );
      }

  -- a list of steps over all their hops that returns is there in one of them
  pub return_is_unsound : (u h : ℕ) (hops : List ℕ) → Follows (StepsInSome move (AllowEach (length move.net) Allows) a) u (h ∷ hops) u →
      IsUnsoundInSome move (AllowEach (length move.net) Allows) a
  return_is_unsound u h hops follows =
      let ring : StepRing (StepsInSome move (AllowEach (length move.net) Allows) a) =
      ring_of_return (StepsInSome move (AllowEach (length move.net) Allows) a) u h hops follows in
      let there : StepsAlong move Allows a ring.first (ring.first ∷ ring.others) =
      steps_along follows.0.state follows.0.among ring.first (ring.first ∷ ring.others) ring.distinct ring.goes in
      let returns = ring_returns (StepsIn move there.state a) ring.first ring.others there.goes in
      record {
        state = there.state;
        among = there.among;
        unsound = λ sound. sound.returns_never ring.first returns.hop returns.hops returns.follows;
      }

-- The loops of a wave

-- the phases of a router in wave w
abbrev pub InWave : Timetable → ℕ → ℕ → Phase → Type 0
InWave time w u = IsBetweenPhases (state_before time w u) (state_before time (w + 1) u)

distinct_routers : (ring : List Turn) → AllPairs (λ (r s : Turn). r.router ≢ s.router) ring → AreDistinct (routers_of ring)
distinct_routers [] distinct = pairs_none (λ u v. u ≢ v)
distinct_routers (r ∷ ring) distinct = pairs_more (λ u v. u ≢ v) r.router (routers_of ring)
    (λ u inside same. let there = Contains-map (λ (t : Turn). t.router) ring u inside in
    pairs_first (λ (x y : Turn). x.router ≢ y.router) r ring distinct there.item there.among (same ∙ sym there.gives))
    (distinct_routers ring (pairs_rest (λ (x y : Turn). x.router ≢ y.router) r ring distinct))

module _ (move : Migration) (time : Timetable) (table : IsTimetable (length move.net) move.start time) where
  -- a ring that arises in a state of a wave goes round it
  pub goes_round : (w a : ℕ) (ring : List Turn) → ArisesInWave move time w a ring → GoesRound move time a w ring
  goes_round w a ring there = around_inside (λ (r s : Turn). StepsIn move there.state a r.router s.router)
      (λ (r s : Turn). StepsRound move time a w r.router s.router) ring
      (λ r s inside steps. step_of_ends (state_before time w r.router) (state_before time (w + 1) r.router) (there.state r.router)
      (there.of_wave r.router steps.must.router) steps) there.arises

  -- and one of distinct routers that goes round a wave arises in one of its states
  some_steps : (w a u h : ℕ) → StepsRound move time a w u h → StepsInSome move (IsStateOfWave (length move.net) time w) a u h
  some_steps w a u h (inl begins) = record { state = state_before time w; among = first_of_wave table w; steps = begins }
  some_steps w a u h (inr ends) = record { state = state_before time (w + 1); among = last_of_wave table w; steps = ends }

  pub arises_round : (w a : ℕ) (ring : List Turn) → AllPairs (λ (r s : Turn). r.router ≢ s.router) ring → GoesRound move time a w ring →
      ArisesInWave move time w a ring
  arises_round w a [] distinct round = record { state = state_before time w; of_wave = first_of_wave table w; arises = tt }
  arises_round w a (r ∷ ring) distinct round =
      let there : StepsAlong move (InWave time w) a r.router (routers_of (r ∷ ring)) =
      steps_along move (InWave time w) a (state_before time w) (first_of_wave table w) r.router (routers_of (r ∷ ring))
      (distinct_routers (r ∷ ring) distinct)
      (each_to_routers (StepsInSome move (IsStateOfWave (length move.net) time w) a) r (r ∷ ring)
      (each_inside (λ (x y : Turn). StepsRound move time a w x.router y.router)
      (λ (x y : Turn). StepsInSome move (IsStateOfWave (length move.net) time w) a x.router y.router) r (r ∷ ring)
      (λ x y inside steps. some_steps w a x.router y.router steps) round)) in
      record { state = there.state; of_wave = there.among; arises = around_of_routers (StepsIn move there.state a) (r ∷ ring) there.goes }

  -- a turn tagged Both goes round every wave
  both_round : (w a u h : ℕ) → 1 ≤ w → Steps move u (move.start u) a h → Steps move u New a h → StepsRound move time a w u h
  both_round w a u h one start new =
      inl (later_step (move.start u) start new (state_before time w u) (start_first table u w start.must.router one))

  pub turn_round : (w a next k : ℕ) (turn : Turn) → 1 ≤ w → IsTag move a turn next → SwitchesIn move time a turn next k →
      (turn.tag ≡ tag.Old → w ≤ k) → (turn.tag ≡ tag.New → k ≤ w) → StepsRound move time a w turn.router next
  turn_round w a next k turn one tagged switches old new = by turn.tag refl
    where
      by : (t : Tag) → turn.tag ≡ t → StepsRound move time a w turn.router next
      by tag.Old is = (switches.old is w one).1 (old is)
      by tag.New is = (switches.new is w one).1 (new is)
      by tag.Both is =
          let step = subst (λ t. IsTagOf t (Steps move turn.router (move.start turn.router) a next) (Steps move turn.router New a next)) is tagged.steps in
          both_round w a turn.router next one step.0 step.1
