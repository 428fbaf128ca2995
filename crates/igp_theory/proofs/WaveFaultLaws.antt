-- The faults of waves: there is one, a wave list that has one isn't seamless, and tables with the same entries have the same.
use Rattle.std.proofs.Common.{arith}
use Rattle.std.proofs.lemmas.Grind.{common_steps}
use Rattle.std.proofs.Common.{◌≡◌, ℕ, ◌^◌, ◌<◌, inl, inr, List, length, refl, sym, subst}
use Rattle.std.proofs.lemmas.Bool.{cases_order}
use Rattle.net_addr.specs.Addresses.{Block}
use Rattle.order_core.specs.Turns.{routers_of}
use Rattle.order_core.specs.declared.turn.Turn.{Turn}
use Rattle.igp_theory.specs.Forwarding.{MustForward, HasStep}
use Rattle.igp_theory.specs.Laws.{HaveSameTables}
use Rattle.igp_theory.specs.Loops.{IsFoundRing, Fault, loop, IsFault, missing_step, loop_arises}
use Rattle.igp_theory.specs.Migrations.{Migration, retabled}
use Rattle.igp_theory.specs.Routes.{Tables}
use Rattle.igp_theory.specs.Phases.{State}
use Rattle.igp_theory.specs.States.{StepsIn, IsSoundAt, IsSound}
use Rattle.igp_theory.specs.WaveFaults.{StepsInSome, LacksStep, HasStepsInAll, IsLeastUnsound, IsFaultOver, missing_in_one, loop_over_all, IsTimesFault}
use Rattle.igp_theory.specs.WaveLaws.{Delivers}
use Rattle.igp_theory.specs.Timetables.{Timetable, IsSoundThroughout}
use Rattle.igp_theory.specs.Waves.{AreSeamlessWaves}
use Rattle.igp_theory.proofs.FaultLaws.{fault_is_unsound}
use Rattle.igp_theory.proofs.FoundRings.{found_ring_unique}
use Rattle.igp_theory.proofs.SameTables.{same_tables_sym, steps_over, has_step_over, follows_over, sound_at_over, sound_over, around_ring_over, tag_over}
use Rattle.igp_theory.proofs.SameTables.{SameHops, found_ring_over}
use Rattle.igp_theory.proofs.Tags.{AreTagged, same_tagged}
use Rattle.igp_theory.proofs.TimetableStates.{wave_is_reached}

-- One fault

least_same : {move : Migration} {states : State → Type 0} {a b : ℕ} → IsLeastUnsound move states a →
    IsLeastUnsound move states b → a ≡ b
least_same {a = a} {b = b} one other = elim (cases_order a b) [
  | inl same ↦ same
  | inr (inl before) ↦ absurd (one.unsound.unsound (other.below a before one.unsound.state one.unsound.among))
  | inr (inr after) ↦ absurd (other.unsound.unsound (one.below b after other.unsound.state other.unsound.among))
]

-- the lowest-numbered router that lacks a step
record IsLowestLack (move : Migration) (states : State → Type 0) (a u : ℕ) : Type 0 where
  lacks : LacksStep move states a u
  lowest : (v : ℕ) → v < u → MustForward move.net a v → HasStepsInAll move states a v

lack_same : {move : Migration} {states : State → Type 0} {a u v : ℕ} → IsLowestLack move states a u →
    IsLowestLack move states a v → u ≡ v
lack_same {u = u} {v = v} one other = elim (cases_order u v) [
  | inl same ↦ same
  | inr (inl before) ↦ absurd (one.lacks.lacks (other.lowest u before one.lacks.must one.lacks.state one.lacks.among))
  | inr (inr after) ↦ absurd (other.lacks.lacks (one.lowest v after other.lacks.must other.lacks.state other.lacks.among))
]

-- every router has its steps in all of the states
abbrev AllForward : Migration → (State → Type 0) → ℕ → Type 0
AllForward move states a = (v : ℕ) → MustForward move.net a v → HasStepsInAll move states a v

none_lacks : {move : Migration} {states : State → Type 0} {a u : ℕ} → LacksStep move states a u →
    AllForward move states a → ⊥
none_lacks {u = u} lack forwards = lack.lacks (forwards u lack.must lack.state lack.among)

-- a set of states has one fault
pub fault_over_unique : {move : Migration} {states : State → Type 0} {fault other : Fault} →
    IsFaultOver move states fault → IsFaultOver move states other → fault ≡ other
fault_over_unique {move} {states} (missing_in_one {a = a} {u = u} least lacks lowest) (missing_in_one {a = b} {u = v} last lack low) =
    let address : a ≡ b = least_same least last in
    let one : IsLowestLack move states a u = record { lacks = lacks; lowest = lowest } in
    let two : IsLowestLack move states b v = record { lacks = lack; lowest = low } in
    let router : u ≡ v = lack_same one (subst (λ (x : ℕ). IsLowestLack move states x v) (sym address) two) in
    cc
fault_over_unique {move} {states} (missing_in_one {a = a} {u = u} least lacks lowest) (loop_over_all {a = b} last forwards found tags) =
    absurd (none_lacks lacks (subst (λ (x : ℕ). AllForward move states x) (sym (least_same least last)) forwards))
fault_over_unique {move} {states} (loop_over_all {a = a} least forwards found tags) (missing_in_one {a = b} {u = v} last lack low) =
    absurd (none_lacks lack (subst (λ (x : ℕ). AllForward move states x) (least_same least last) forwards))
fault_over_unique {move} {states} (loop_over_all {a = a} {ring = one} least _ found tags) (loop_over_all {a = b} {ring = two} last _ finds marks) =
    let address : a ≡ b = least_same least last in
    let again : IsFoundRing (StepsInSome move states a) (length move.net) (routers_of two) =
    subst (λ (x : ℕ). IsFoundRing (StepsInSome move states x) (length move.net) (routers_of two)) (sym address) finds in
    let tagged : AreTagged move a two = subst (λ (x : ℕ). AreTagged move x two) (sym address) marks in
    let rings : one ≡ two = same_tagged move a one two (found_ring_unique found again) tags tagged in
    cc

-- the state in which a fault's address is unsound
fault_over_unsound : {move : Migration} {states : State → Type 0} {fault : Fault} → IsFaultOver move states fault →
    ((state : State) → states state → IsSound move state) → ⊥
fault_over_unsound (missing_in_one {a = a} least lacks lowest) sound =
    least.unsound.unsound (sound least.unsound.state least.unsound.among a least.address)
fault_over_unsound (loop_over_all {a = a} least forwards found tags) sound =
    least.unsound.unsound (sound least.unsound.state least.unsound.among a least.address)

same_time : {move : Migration} {time : Timetable} {w v : ℕ} {fault other : Fault} → IsTimesFault move time w fault →
    IsTimesFault move time v other → w ≡ v
same_time {w = w} {v = v} one other = elim (cases_order w v) [
  | inl same ↦ same
  | inr (inl before) ↦ absurd (fault_over_unsound one.here (other.before w one.from_one before))
  | inr (inr after) ↦ absurd (fault_over_unsound other.here (one.before v other.from_one after))
]

-- a timetable has one fault
pub times_fault_unique : {move : Migration} {time : Timetable} {w v : ℕ} {fault other : Fault} → IsTimesFault move time w fault →
    IsTimesFault move time v other → (w ≡ v) × (fault ≡ other)
times_fault_unique {move} {time} {w} {v} {fault} {other} one two = grind (arith, common_steps, fault_over_unique, same_time)

-- and with it the migration isn't sound throughout
pub times_fault_unsound : (move : Migration) (time : Timetable) (w : ℕ) (fault : Fault) → IsTimesFault move time w fault →
    IsSoundThroughout move time → ⊥
times_fault_unsound move time w fault is sound =
    fault_over_unsound is.here (λ state of_wave. sound.sound state
    (wave_is_reached sound.table state (record { wave = w; from_one = is.from_one; of_wave = of_wave })))

-- A single state

hops_of_one : {move : Migration} (state : State) (a : ℕ) →
    SameHops (StepsInSome move (λ (other : State). other ≡ state) a) (StepsIn move state a)
hops_of_one {move} state a u h = grind (arith, common_steps)

hops_in_one : {move : Migration} (state : State) (a : ℕ) →
    SameHops (StepsIn move state a) (StepsInSome move (λ (other : State). other ≡ state) a)
hops_in_one {move} state a u h = grind (arith, common_steps)

pub fault_of_one : (move : Migration) (state : State) (fault : Fault) →
    IsFaultOver move (λ (other : State). other ≡ state) fault → IsFault move state fault
fault_of_one move state fault (missing_in_one {a = a} {u = u} least lacks lowest) =
    missing_step least.address (λ b less. least.below b less state refl) lacks.must
    (subst (λ (x : State). HasStep move u (x u) a → ⊥) lacks.among lacks.lacks)
    (λ v less must. lowest v less must state refl)
fault_of_one move state fault (loop_over_all {a = a} least forwards found tags) =
    loop_arises least.address (λ b less. least.below b less state refl) (λ v must. forwards v must state refl)
    (found_ring_over (hops_of_one state a) found) tags

-- an address that is unsound in a state and the least such one
least_of_one : (move : Migration) (state : State) (a : ℕ) → a < 2 ^ 32 → ((b : ℕ) → b < a → IsSoundAt move state b) →
    (IsSoundAt move state a → ⊥) → IsLeastUnsound move (λ (other : State). other ≡ state) a
least_of_one move state a address below unsound = grind (arith, common_steps)

pub fault_in_one : (move : Migration) (state : State) (fault : Fault) →
    IsFault move state fault → IsFaultOver move (λ (other : State). other ≡ state) fault
fault_in_one move state fault (missing_step {a = a} {u = u} address below must lacks lowest) =
    missing_in_one (least_of_one move state a address below (λ sound. lacks (sound.forwards u must)))
    (record { must = must; state = state; among = refl; lacks = lacks })
    (λ v less needs other same. subst (λ (x : State). HasStep move v (x v) a) (sym same) (lowest v less needs))
fault_in_one move state fault (loop_arises {a = a} {ring = ring} address below forwards found tags) =
    let is : IsFault move state (loop a ring) = loop_arises address below forwards found tags in
    loop_over_all (least_of_one move state a address below (fault_is_unsound is))
    (λ v must other same. subst (λ (x : State). HasStep move v (x v) a) (sym same) (forwards v must))
    (found_ring_over (hops_in_one state a) found) tags

-- Tables with the same entries

pub delivers_over : {move : Migration} {old' new' : Tables} {state : State} {a : ℕ} {p : Block} → HaveSameTables move old' new' →
    Delivers move state a p → Delivers (retabled move old' new') state a p
delivers_over {move} {old'} {new'} {state} {a} same is = record {
  short = λ u v hops below follows. is.short u v hops below (follows_over (λ w h. steps_over (same_tables_sym same)) u hops v follows);
  onward = λ u v hops below follows. elim (is.onward u v hops below (follows_over (λ w h. steps_over (same_tables_sym same)) u hops v follows)) [
    | inl reached ↦ inl reached
    | inr has ↦ inr (has_step_over same has)
  ];
}

throughout_over : {move : Migration} {old' new' : Tables} {time : Timetable} → HaveSameTables move old' new' → IsSoundThroughout move time →
    IsSoundThroughout (retabled move old' new') time
throughout_over same sound = record { table = sound.table; sound = λ state is. sound_over same (sound.sound state is) }

pub seamless_waves_over : {move : Migration} {old' new' : Tables} {ranks : List ℕ} → HaveSameTables move old' new' →
    AreSeamlessWaves move ranks → AreSeamlessWaves (retabled move old' new') ranks
seamless_waves_over same seamless = record { waves = seamless.waves; throughout = throughout_over same seamless.throughout }

some_steps_over : {move : Migration} {old' new' : Tables} {states : State → Type 0} (a : ℕ) → HaveSameTables move old' new' →
    SameHops (StepsInSome move states a) (StepsInSome (retabled move old' new') states a)
some_steps_over a same u h = (
  λ some. record { state = some.state; among = some.among; steps = steps_over same some.steps },
  λ some. record { state = some.state; among = some.among; steps = steps_over (same_tables_sym same) some.steps },
)

least_over : {move : Migration} {old' new' : Tables} {states : State → Type 0} {a : ℕ} → HaveSameTables move old' new' →
    IsLeastUnsound move states a → IsLeastUnsound (retabled move old' new') states a
least_over same least = record {
  address = least.address;
  unsound = record {
    state = least.unsound.state;
    among = least.unsound.among;
    unsound = λ sound. least.unsound.unsound (sound_at_over (same_tables_sym same) sound);
  };
  below = λ b less state among. sound_at_over same (least.below b less state among);
}

pub fault_over_tables : {move : Migration} {old' new' : Tables} {states : State → Type 0} {fault : Fault} → HaveSameTables move old' new' →
    IsFaultOver move states fault → IsFaultOver (retabled move old' new') states fault
fault_over_tables same (missing_in_one least lacks lowest) =
    missing_in_one (least_over same least)
    (record {
      must = lacks.must;
      state = lacks.state;
      among = lacks.among;
      lacks = λ has. lacks.lacks (has_step_over (same_tables_sym same) has);
    })
    (λ v less must state among. has_step_over same (lowest v less must state among))
fault_over_tables same (loop_over_all {a = a} {ring = ring} least forwards found tags) =
    loop_over_all (least_over same least) (λ v must state among. has_step_over same (forwards v must state among))
    (found_ring_over (some_steps_over a same) found) (around_ring_over (λ (r s : Turn). tag_over {next = s.router} {r = r} same) ring tags)

pub times_fault_over : {move : Migration} {old' new' : Tables} {time : Timetable} {w : ℕ} {fault : Fault} → HaveSameTables move old' new' →
    IsTimesFault move time w fault → IsTimesFault (retabled move old' new') time w fault
times_fault_over same is = record {
  from_one = is.from_one;
  before = λ v from less state of_wave. sound_over same (is.before v from less state of_wave);
  here = fault_over_tables same is.here;
}
