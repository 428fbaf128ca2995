-- What is told of a fault is so in one state.
use Rattle.std.proofs.Common.{◌≡◌, ◌≢◌, ◌∙◌, ℕ, ◌+◌, ◌≤◌, ◌⊎◌, inl, inr, List, [], ◌∷◌, length, get_or, AllPairs, Contains, arith, refl, subst, sym}
use Rattle.std.proofs.lemmas.Bool.{cases_eq}
use Rattle.std.proofs.lemmas.List.Elements.{Contains-get_or}
use Rattle.order_core.specs.declared.turn.Tag.{Tag}
use Rattle.order_core.specs.declared.turn.Tag.TheVariants as tag
use Rattle.order_core.specs.declared.turn.Turn.{Turn}
use Rattle.igp_theory.specs.Forwarding.{Steps}
use Rattle.igp_theory.specs.Loops.{AroundRing, Fault, IsFirstFault, loop}
use Rattle.igp_theory.specs.Migrations.{Migration}
use Rattle.igp_theory.specs.Phases.{State, made_in}
use Rattle.igp_theory.specs.States.{state_of}
use Rattle.igp_theory.specs.Timetables.{IsStateOfWave, IsTimetable, Timetable}
use Rattle.igp_theory.specs.WaveFaults.{IsFaultOver, IsTimesFault, loop_over_all}
use Rattle.igp_theory.specs.declared.phase.Phase.{Phase}
use Rattle.igp_theory.proofs.OrderedLists.{pairs_first, pairs_rest}
use Rattle.igp_theory.proofs.Rings.{around_inside, found_distinct, turns_distinct}
use Rattle.igp_theory.proofs.Phases.{phases_same}
use Rattle.igp_theory.proofs.Timetables.{made_grows}
use Rattle.net_model.proofs.Members.{Contains-cases, Contains-none}
use Rattle.explained_texts.specs.WayStates.{GoesRoundIn, IsShownInOne}
use Rattle.explained_texts.specs.WayTexts.{InSpan, IsFirstLacking, IsWayText, StateSpan, UsesTowards, of_ring, of_router, order_span, times_span, turn_phase}

-- one of two phases, by which of two facts holds
abbrev choose : {P Q : Type 0} → P ⊎ Q → Phase → Phase → Phase
choose (inl here) one other = one
choose (inr there) one other = other

choose_here : {P Q : Type 0} (either : P ⊎ Q) (one other : Phase) → (Q → ⊥) → choose either one other ≡ one
choose_here (inl here) one other not = refl
choose_here (inr there) one other not = absurd (not there)

choose_else : {P Q : Type 0} (either : P ⊎ Q) (one other : Phase) → (P → ⊥) → choose either one other ≡ other
choose_else (inl here) one other not = absurd (not here)
choose_else (inr there) one other not = refl

-- router u is in a phase, the others as they were
abbrev put : ℕ → Phase → State → State
put u phase state v = choose (cases_eq v u) phase (state v)

-- the routers of a ring are in the phases that are told of them, the others as the span begins
abbrev told_state : StateSpan → List Turn → State
told_state span [] = span.first
told_state span (turn ∷ ring) = put turn.router (turn_phase span turn) (told_state span ring)

module _ (span : StateSpan) where
  in_told : (ring : List Turn) → AllPairs (λ (r s : Turn). r.router ≢ s.router) ring → (turn : Turn) → Contains ring turn →
      told_state span ring turn.router ≡ turn_phase span turn
  in_told [] distinct turn inside = absurd (Contains-none turn inside)
  in_told (r ∷ rest) distinct turn inside = elim (Contains-cases r rest turn inside) [
    | inl same ↦ subst (λ (t : Turn). told_state span (r ∷ rest) t.router ≡ turn_phase span t) same
        (choose_here (cases_eq r.router r.router) (turn_phase span r) (told_state span rest r.router) (λ apart. apart refl))
    | inr later ↦
        choose_else (cases_eq turn.router r.router) (turn_phase span r) (told_state span rest turn.router)
        (λ same. pairs_first (λ (x y : Turn). x.router ≢ y.router) r rest distinct turn later (sym same))
        ∙ in_told rest (pairs_rest (λ (x y : Turn). x.router ≢ y.router) r rest distinct) turn later
  ]

  module _ (ordered : (u : ℕ) → made_in (span.first u) ≤ made_in (span.last u)) where
    told_between : (t : Tag) (u : ℕ) → InSpan span u (turn_phase span (record { router = u; tag = t }))
    told_between tag.Old u = record { from = omega arith; upto = ordered u }
    told_between tag.New u = record { from = ordered u; upto = omega arith }
    told_between tag.Both u = record { from = omega arith; upto = ordered u }

    put_between : (u : ℕ) (phase : Phase) (state : State) → InSpan span u phase → ((v : ℕ) → InSpan span v (state v)) → (v : ℕ) →
        InSpan span v (put u phase state v)
    put_between u phase state here is v = by (cases_eq v u)
      where
        by : (either : (v ≡ u) ⊎ (v ≡ u → ⊥)) → InSpan span v (choose either phase (state v))
        by (inl same) = subst (λ w. InSpan span w phase) (sym same) here
        by (inr apart) = is v

    first_between : (v : ℕ) → InSpan span v (span.first v)
    first_between v = record { from = omega arith; upto = ordered v }

    ring_between : (ring : List Turn) (v : ℕ) → InSpan span v (told_state span ring v)
    ring_between [] v = first_between v
    ring_between (turn ∷ ring) v =
        put_between turn.router (turn_phase span turn) (told_state span ring) (told_between turn.tag turn.router) (ring_between ring) v

module _ (move : Migration) (span : StateSpan) where
  -- where its routers are in the phases told, the ring arises
  goes_round_in : (state : State) (a : ℕ) (ring : List Turn) →
      ((turn : Turn) → Contains ring turn → state turn.router ≡ turn_phase span turn) →
      AroundRing (λ (r s : Turn). UsesTowards move r.router (turn_phase span r) a s.router) ring → GoesRoundIn move span state a ring
  goes_round_in state a ring phases goes = record {
    phases = λ k d below. phases (get_or ring k d) (Contains-get_or ring k d below);
    arises = around_inside (λ (r s : Turn). UsesTowards move r.router (turn_phase span r) a s.router)
        (λ (r s : Turn). Steps move r.router (state r.router) a s.router) ring
        (λ r s inside towards. subst (λ (phase : Phase). Steps move r.router phase a s.router) (sym (phases r inside)) towards.steps)
        goes;
  }

-- ---- orders ----

told_alone : (state : State) (t : Tag) (u : ℕ) → state u ≡ turn_phase (record { first = state; last = state }) (record { router = u; tag = t })
told_alone state tag.Old u = refl
told_alone state tag.New u = refl
told_alone state tag.Both u = refl

lacking_alone : (move : Migration) (state : State) (a u : ℕ) (phase : Phase) →
    IsFirstLacking move (record { first = state; last = state }) a u phase → state u ≡ phase
lacking_alone move state a u phase lacks =
    let from = lacks.between.from in
    let upto = lacks.between.upto in
    phases_same (state u) phase (omega (arith, from, upto))

pub order_in_one : (move : Migration) (order : List ℕ) (k : ℕ) (fault : Fault) (text : List ℕ) → IsFirstFault move order k fault →
    IsWayText move (order_span order k) fault text →
    IsShownInOne move (λ (state : State). state ≡ state_of order k) (order_span order k) fault
order_in_one move order k fault text first (of_ring a ring _ _ _ goes _) = record {
  state = state_of order k;
  among = refl;
  shows = goes_round_in move (order_span order k) (state_of order k) a ring
      (λ turn inside. told_alone (state_of order k) turn.tag turn.router) goes;
}
order_in_one move order k fault text first (of_router a u phase _ _ _ lacks _) = record {
  state = state_of order k;
  among = refl;
  shows = record { phase = phase; told = lacks; is_in = lacking_alone move (state_of order k) a u phase lacks };
}

-- ---- timetables ----

-- the routers of the ring of a fault are distinct
fault_distinct : (move : Migration) (states : State → Type 0) (a : ℕ) (ring : List Turn) → IsFaultOver move states (loop a ring) →
    AllPairs (λ (r s : Turn). r.router ≢ s.router) ring
fault_distinct move states a ring (loop_over_all least all found tags) = turns_distinct ring (found_distinct found)

module _ (move : Migration) (time : Timetable) (w : ℕ) (table : IsTimetable (length move.net) move.start time) where
  abbrev span : StateSpan
  span = times_span time w

  ordered : (u : ℕ) → made_in (span.first u) ≤ made_in (span.last u)
  ordered u = made_grows table u w (w + 1) (omega arith)

  pub times_in_one : (fault : Fault) (text : List ℕ) → IsTimesFault move time w fault → IsWayText move span fault text →
      IsShownInOne move (IsStateOfWave (length move.net) time w) span fault
  times_in_one fault text is (of_ring a ring _ _ _ goes _) = record {
    state = told_state span ring;
    among = λ u below. ring_between span ordered ring u;
    shows = goes_round_in move span (told_state span ring) a ring
        (in_told span ring (fault_distinct move (IsStateOfWave (length move.net) time w) a ring is.here)) goes;
  }
  times_in_one fault text is (of_router a u phase _ _ _ lacks _) = record {
    state = put u phase span.first;
    among = λ v below. put_between span ordered u phase span.first lacks.between (first_between span ordered) v;
    shows = record {
      phase = phase;
      told = lacks;
      is_in = choose_here (cases_eq u u) phase (span.first u) (λ apart. apart refl);
    };
  }
