-- The fault of a state and the first fault of an order: what has one isn't sound, and has no other.
use Rattle.std.proofs.lemmas.Grind.{common_steps}
use Rattle.std.proofs.Common.{◌≡◌, ℕ, ◌*◌, ◌^◌, ◌<◌, ◌≤◌, inl, inr, List, [], ◌∷◌, length, refl, sym}
use Rattle.std.proofs.Common.{subst, arith}
use Rattle.std.proofs.lemmas.Bool.{cases_lt, cases_order}
use Rattle.std.proofs.lemmas.List.{take_all}
use Rattle.order_core.specs.Turns.{routers_of}
use Rattle.igp_theory.specs.Forwarding.{MustForward, HasStep}
use Rattle.igp_theory.specs.Laws.{fault_address}
use Rattle.igp_theory.specs.Loops.{Fault, IsFault, missing_step, loop_arises, IsFirstFault, IsFoundRing}
use Rattle.igp_theory.specs.Migrations.{Migration}
use Rattle.igp_theory.specs.Phases.{State}
use Rattle.igp_theory.specs.States.{StepsIn, IsSoundAt, IsSound, IsSeamless, changes_of, state_of}
use Rattle.igp_theory.proofs.FoundRings.{found_ring_returns, found_ring_unique}
use Rattle.igp_theory.proofs.Tags.{AreTagged, same_tagged}

-- Faults are unsound

-- a state isn't sound for its fault's address
pub fault_is_unsound : {move : Migration} {state : State} {fault : Fault} → IsFault move state fault →
    IsSoundAt move state (fault_address fault) → ⊥
fault_is_unsound (missing_step {u = u} address below must lacks lowest) sound = lacks (sound.forwards u must)
fault_is_unsound (loop_arises address below forwards found tags) sound =
    let returns = found_ring_returns found in
    sound.returns_never found.again returns.hop returns.hops returns.follows

fault_has_address : {move : Migration} {state : State} {fault : Fault} → IsFault move state fault →
    fault_address fault < 2 ^ 32
fault_has_address it_0 = grind (arith, common_steps)

fault_is_least : {move : Migration} {state : State} {fault : Fault} → IsFault move state fault →
    (b : ℕ) → b < fault_address fault → IsSoundAt move state b
fault_is_least (missing_step address below must lacks lowest) = below
fault_is_least (loop_arises address below forwards found tags) = below

-- a state with a fault isn't sound
pub faulty_not_sound : {move : Migration} {state : State} {fault : Fault} → IsFault move state fault →
    IsSound move state → ⊥
faulty_not_sound {fault = fault} is sound = fault_is_unsound is (sound (fault_address fault) (fault_has_address is))

length_changes : (order : List ℕ) → length (changes_of order) ≡ 2 * length order
length_changes [] = refl
length_changes (u ∷ order) = let rest : length (changes_of order) ≡ 2 * length order = length_changes order in omega arith

-- after all its changes an order stays in its last state
last_state_stays : (order : List ℕ) (k : ℕ) → 2 * length order ≤ k → state_of order k ≡ state_of order (2 * length order)
last_state_stays order k past = grind (arith, common_steps, length_changes, take_all)

-- every state of a seamless order is sound
all_states_sound : {move : Migration} {order : List ℕ} → IsSeamless move order → (k : ℕ) →
    IsSound move (state_of order k)
all_states_sound {move} {order} seamless k =
    elim (cases_lt (2 * length order) k) [
      | inr within ↦ seamless.sound k within
      | inl past ↦ subst (λ (state : State). IsSound move state) (sym (last_state_stays order k (omega arith)))
          (seamless.sound (2 * length order) (omega arith))
    ]

-- an order with a first fault isn't seamless
pub faulty_not_seamless : {move : Migration} {order : List ℕ} {k : ℕ} {fault : Fault} →
    IsFirstFault move order k fault → IsSeamless move order → ⊥
faulty_not_seamless {k = k} first seamless = faulty_not_sound first.here (all_states_sound seamless k)

-- One fault

same_address : {move : Migration} {state : State} {fault other : Fault} → IsFault move state fault →
    IsFault move state other → fault_address fault ≡ fault_address other
same_address {fault = fault} {other = other} is again =
    elim (cases_order (fault_address fault) (fault_address other)) [
      | inl same ↦ same
      | inr (inl before) ↦ absurd (fault_is_unsound is (fault_is_least again (fault_address fault) before))
      | inr (inr after) ↦ absurd (fault_is_unsound again (fault_is_least is (fault_address other) after))
    ]

-- a router without a step, the lowest-numbered of those
record LacksStep (move : Migration) (state : State) (a u : ℕ) : Type 0 where
  must : MustForward move.net a u
  lacks : HasStep move u (state u) a → ⊥
  lowest : (v : ℕ) → v < u → MustForward move.net a v → HasStep move v (state v) a

same_router : {move : Migration} {state : State} {a u v : ℕ} → LacksStep move state a u →
    LacksStep move state a v → u ≡ v
same_router {u = u} {v = v} one other =
    elim (cases_order u v) [
      | inl same ↦ same
      | inr (inl before) ↦ absurd (one.lacks (other.lowest u before one.must))
      | inr (inr after) ↦ absurd (other.lacks (one.lowest v after other.must))
    ]

-- every router that has to pass packets on has a step
abbrev AllForward : Migration → State → ℕ → Type 0
AllForward move state a = (v : ℕ) → MustForward move.net a v → HasStep move v (state v) a

-- faults at one address are the same
same_at_address : {move : Migration} {state : State} {fault other : Fault} → IsFault move state fault →
    IsFault move state other → fault_address fault ≡ fault_address other → fault ≡ other
same_at_address {move} {state} (missing_step {a = a} {u = u} _ _ must lacks lowest) (missing_step {a = b} {u = v} _ _ needs without least) address =
    let one : LacksStep move state a u = record { must = must; lacks = lacks; lowest = lowest } in
    let other : LacksStep move state b v = record { must = needs; lacks = without; lowest = least } in
    let router : u ≡ v = same_router one (subst (λ (x : ℕ). LacksStep move state x v) (sym address) other) in
    cc
same_at_address {move} {state} (missing_step {u = u} _ _ must lacks lowest) (loop_arises _ _ forwards found tags) address =
    absurd (lacks (subst (λ (x : ℕ). AllForward move state x) (sym address) forwards u must))
same_at_address {move} {state} (loop_arises _ _ forwards found tags) (missing_step {u = u} _ _ must lacks lowest) address =
    absurd (lacks (subst (λ (x : ℕ). AllForward move state x) address forwards u must))
same_at_address {move} {state} (loop_arises {a = a} {ring = ring} _ _ forwards found tags)
    (loop_arises {a = b} {ring = turn} _ _ passes finds marks) address =
    let again : IsFoundRing (StepsIn move state a) (length move.net) (routers_of turn) =
    subst (λ (x : ℕ). IsFoundRing (StepsIn move state x) (length move.net) (routers_of turn)) (sym address) finds in
    let tagged : AreTagged move a turn = subst (λ (x : ℕ). AreTagged move x turn) (sym address) marks in
    let rings : ring ≡ turn = same_tagged move a ring turn (found_ring_unique found again) tags tagged in
    cc

-- a state has one fault
pub fault_unique : {move : Migration} {state : State} {fault other : Fault} → IsFault move state fault →
    IsFault move state other → fault ≡ other
fault_unique is again = same_at_address is again (same_address is again)

same_number : {move : Migration} {order : List ℕ} {k j : ℕ} {fault other : Fault} →
    IsFirstFault move order k fault → IsFirstFault move order j other → k ≡ j
same_number {k = k} {j = j} one other =
    elim (cases_order k j) [
      | inl same ↦ same
      | inr (inl before) ↦ absurd (faulty_not_sound one.here (other.before k before))
      | inr (inr after) ↦ absurd (faulty_not_sound other.here (one.before j after))
    ]

-- an order has one first fault
pub first_fault_unique : {move : Migration} {order : List ℕ} {k j : ℕ} {fault other : Fault} →
    IsFirstFault move order k fault → IsFirstFault move order j other → (k ≡ j) × (fault ≡ other)
first_fault_unique {move} {order} {k} {j} {fault} {other} one two = grind (arith, common_steps, fault_unique, same_number)
