-- A migration that goes on from another start: it steps as before, and has other tags.
use Rattle.std.proofs.lemmas.Grind.{common_steps}
use Rattle.std.proofs.Common.{◌≡◌, ℕ, suc, ◌+◌, ◌<◌, ◌≤◌, List, [], ◌∷◌, length, get_or, set, Bool, ◌&&◌, Option, None, Some, IfSome, IfNone, IsNone, ◌↔◌, arith, ap, sym, ◌∙◌, subst, below_more}
use Rattle.std.specs.Bool.{OnTrue}
use Rattle.std.proofs.lemmas.List.{map-set, length-map, get_or-map, set-get_or, get_or-set_same, get_or-set_other}
use Rattle.net_addr.specs.Addresses.{Block}
use Rattle.order_core.specs.Turns.{routers_of}
use Rattle.order_core.specs.declared.turn.Turn.{Turn}
use Rattle.igp_theory.specs.Forwarding.{Usable, Counts, connected_counts, old_counts, new_counts, Steps, HasStep, MustForward}
use Rattle.igp_theory.specs.LoopLaws.{IsFromStart}
use Rattle.igp_theory.specs.Loops.{IsTagOf, IsTag, EachToNext, AroundRing, IsFoundRing, loop, missing, IsFault, missing_step, loop_arises}
use Rattle.igp_theory.specs.Migrations.{Migration, started}
use Rattle.igp_theory.specs.Phases.{State, all_old}
use Rattle.igp_theory.specs.States.{StepsIn, IsSoundAt, IsSound}
use Rattle.igp_theory.specs.TimetableLaws.{IsStateOfSomeWave}
use Rattle.igp_theory.specs.Timetables.{Timetable, IsTimetable, IsStateOfWave, IsSoundThroughout}
use Rattle.igp_theory.specs.WaveFaults.{StepsInSome, IsLeastUnsound, IsFaultOver, missing_in_one, loop_over_all, IsTimesFault}
use Rattle.igp_theory.specs.declared.phase.Phase.{Phase}
use Rattle.igp_theory.specs.declared.phase.Phase.TheVariants.{New}
use Rattle.igp_theory.proofs.LoopLaws.{start_or_new_step}
use Rattle.igp_theory.proofs.Rings.{found_goes_round}
use Rattle.igp_theory.proofs.SameTables.{follows_over, found_ring_over, around_ring_over}
use Rattle.igp_theory.proofs.Tags.{tags_over}
use Rattle.igp_theory.proofs.Timetables.{start_first}
use Rattle.loop_finder.specs.Faults.{KeepsRing, told, told_fault}
use Rattle.loop_finder.specs.Mixes.{Mix}
use Rattle.loop_finder.specs.Soundness.{Sound}
use Rattle.loop_finder.specs.steps.Rings.{next_in}
use Rattle.loop_finder.specs.steps.Starts.{StepsFrom, TurnsStep, TurnsAreTagged}
use Rattle.loop_finder.specs.declared.fault.Fault.{Fault as Told}
use Rattle.loop_finder.specs.declared.fault.Fault.TheVariants.{Loop, Missing}
use Rattle.loop_finder.proofs.FaultLaws.{none_sound}
use Rattle.loop_finder.proofs.TagSteps.{ring_step}
use Rattle.loop_finder.proofs.WaveListFacts.{none_throughout}

-- The same steps. Back again one goes from the other's start to this one's

counts_from : {move : Migration} (start : State) {u : ℕ} {phase : Phase} {p : Block} {d : ℕ} {x : Usable} → Counts move u phase p d x →
    Counts (started start move) u phase p d x
counts_from start (connected_counts here) = connected_counts here
counts_from start (old_counts phase c has distance apart entry) = old_counts phase c has distance apart entry
counts_from start (new_counts phase entry) = new_counts phase entry

pub steps_from : {move : Migration} (start : State) {u a h : ℕ} {phase : Phase} → Steps move u phase a h → Steps (started start move) u phase a h
steps_from {move} start steps = record {
  must = steps.must;
  used = steps.used;
  uses = record {
    prefix = steps.uses.prefix;
    distance = steps.uses.distance;
    counts = counts_from start steps.uses.counts;
    contains = steps.uses.contains;
    longest = λ q d other counts contains. steps.uses.longest q d other (counts_from move.start counts) contains;
    lowest = λ q d other counts contains same. steps.uses.lowest q d other (counts_from move.start counts) contains same;
  };
  leads = steps.leads;
}

pub has_step_from : {move : Migration} (start : State) {u a : ℕ} {phase : Phase} → HasStep move u phase a → HasStep (started start move) u phase a
has_step_from start has = record { hop = has.hop; steps = steps_from start has.steps }

pub sound_at_from : {move : Migration} (start : State) {state : State} {a : ℕ} → IsSoundAt move state a → IsSoundAt (started start move) state a
sound_at_from {move} start sound = record {
  forwards = λ u must. has_step_from start (sound.forwards u must);
  returns_never = λ u h hops follows. sound.returns_never u h hops (follows_over (λ x y steps. steps_from move.start steps) u (h ∷ hops) u follows);
}

pub sound_from : {move : Migration} (start : State) {state : State} → IsSound move state → IsSound (started start move) state
sound_from start sound a address = sound_at_from start (sound a address)

some_from : {move : Migration} (start : State) {states : State → Type 0} {a u h : ℕ} → StepsInSome move states a u h →
    StepsInSome (started start move) states a u h
some_from start some = record { state = some.state; among = some.among; steps = steps_from start some.steps }

least_from : {move : Migration} (start : State) {states : State → Type 0} {a : ℕ} → IsLeastUnsound move states a →
    IsLeastUnsound (started start move) states a
least_from {move} start least = record {
  address = least.address;
  unsound = record {
    state = least.unsound.state;
    among = least.unsound.among;
    unsound = λ sound. least.unsound.unsound (sound_at_from move.start sound);
  };
  below = λ b less state among. sound_at_from start (least.below b less state among);
}

-- Faults

-- of the faults that are loops the tags are others
pub missing_from : {move : Migration} (start : State) {states : State → Type 0} {a u : ℕ} → IsFaultOver move states (missing a u) →
    IsFaultOver (started start move) states (missing a u)
missing_from {move} start (missing_in_one least lacks others) = missing_in_one (least_from start least)
    (record { must = lacks.must; state = lacks.state; among = lacks.among; lacks = λ has. lacks.lacks (has_step_from move.start has) })
    (λ v before must state among. has_step_from start (others v before must state among))

pub loop_from : {move : Migration} (start : State) {states : State → Type 0} {a : ℕ} (ring other : List Turn) → routers_of other ≡ routers_of ring →
    AroundRing (λ (r s : Turn). IsTag (started start move) a r s.router) other → IsFaultOver move states (loop a ring) →
    IsFaultOver (started start move) states (loop a other)
loop_from {move} start {states} {a} ring other same tags (loop_over_all least moves found tags_before) = loop_over_all (least_from start least)
    (λ v must state among. has_step_from start (moves v must state among))
    (subst (IsFoundRing (StepsInSome (started start move) states a) (length move.net)) (sym same)
    (found_ring_over (λ u h. (λ some. some_from start some, λ some. some_from move.start some)) found)) tags

-- each router of a loop of a wave steps to the next one in its phase of the start, or in New
pub loop_steps_from : (move : Migration) (start : State) (time : Timetable) (w a : ℕ) (ring : List Turn) → IsTimetable (length move.net) start time → 1 ≤ w →
    IsFaultOver move (IsStateOfWave (length move.net) time w) (loop a ring) → AroundRing (StepsFrom move start a) (routers_of ring)
loop_steps_from move start time w a ring table some (loop_over_all least moves found tags) =
    around_ring_over {R = StepsInSome move (IsStateOfWave (length move.net) time w) a} {S = StepsFrom move start a} (λ u h step.
    let within = step.steps.must.router in
    let begun = start_first table u w within some in
    start_or_new_step (start u) (step.state u) (omega (arith, begun, (step.among u within).from)) step.steps) (routers_of ring) (found_goes_round found)

-- The tags of a ring, place by place

each_place : (R : Turn → ℕ → Type 0) (d last : Turn) (ring : List Turn) →
    ((k : ℕ) → k < length ring → R (get_or ring k d) (get_or (routers_of ring) (k + 1) last.router)) → EachToNext (λ (s t : Turn). R s t.router) last ring
each_place R d last [] each = tt
each_place R d last (r ∷ []) each = each 0 (omega arith)
each_place R d last (r ∷ s ∷ rest) each = (
  each 0 (omega arith),
  each_place R d last (s ∷ rest) (λ k within.
      let next : suc k + 1 ≡ suc (k + 1) = omega arith in
      subst (λ (n : ℕ). R (get_or (s ∷ rest) k d) (get_or (routers_of (r ∷ s ∷ rest)) n last.router)) next (each (suc k) (omega (arith, within)))),
)

pub around_places : (R : Turn → ℕ → Type 0) (d : Turn) (ring : List Turn) →
    ((k : ℕ) → k < length ring → R (get_or ring k d) (next_in (routers_of ring) k)) → AroundRing (λ (s t : Turn). R s t.router) ring
around_places R d [] each = tt
around_places R d (r ∷ rest) each = each_place R d r (r ∷ rest) each

-- What is told

-- the steps of the ring that is told of a timetable, and its fault with other tags
pub told_steps_from : (move : Migration) (start : State) (time : Timetable) (found : Option (ℕ × Told)) (turns : List Turn) →
    IsTimetable (length move.net) start time → IfSome found (λ f. IsTimesFault move time f.0 (told_fault f.1 turns)) →
    IfSome (told found) (λ fault. TurnsStep move start fault turns)
told_steps_from move start time found turns table is = grind (arith, common_steps, loop_steps_from)

pub told_from : (move : Migration) (start : State) (time : Timetable) (found : Option (ℕ × Told)) (turns other : List Turn) →
    routers_of other ≡ routers_of turns → IfSome (told found) (λ fault. TurnsAreTagged (started start move) fault other) →
    IfSome found (λ f. IsTimesFault move time f.0 (told_fault f.1 turns)) →
    IfSome found (λ f. IsTimesFault (started start move) time f.0 (told_fault f.1 other))
told_from move start time None turns other same tags is = tt
told_from move start time (Some (w, Loop a)) turns other same tags is = record {
  from_one = is.from_one;
  before = λ v one less state of_wave. sound_from start (is.before v one less state of_wave);
  here = loop_from start turns other same tags is.here;
}
told_from move start time (Some (w, Missing a u)) turns other same tags is = record {
  from_one = is.from_one;
  before = λ v one less state of_wave. sound_from start (is.before v one less state of_wave);
  here = missing_from start is.here;
}

-- so it is of a state from the start on
pub state_steps_from : (move : Migration) (start state : State) (found : Option Told) (turns : List Turn) → IsFromStart (started start move) state →
    IfSome found (λ fault. IsFault move state (told_fault fault turns)) → IfSome found (λ fault. TurnsStep move start fault turns)
state_steps_from move start state None turns from is = tt
state_steps_from move start state (Some (Loop a)) turns from (loop_arises address below moves found tags) =
    around_ring_over {R = StepsIn move state a} {S = StepsFrom move start a} (λ u h step. start_or_new_step (start u) (state u)
    (from u step.must.router) step) (routers_of turns) (found_goes_round found)
state_steps_from move start state (Some (Missing a u)) turns from is = tt

pub state_from : (move : Migration) (start state : State) (found : Option Told) (turns other : List Turn) → routers_of other ≡ routers_of turns →
    IfSome found (λ fault. TurnsAreTagged (started start move) fault other) → IfSome found (λ fault. IsFault move state (told_fault fault turns)) →
    IfSome found (λ fault. IsFault (started start move) state (told_fault fault other))
state_from move start state None turns other same tags is = tt
state_from move start state (Some (Loop a)) turns other same tags (loop_arises address below moves found tags_before) = loop_arises address
    (λ b less. sound_at_from start (below b less)) (λ v must. has_step_from start (moves v must))
    (subst (IsFoundRing (StepsIn (started start move) state a) (length move.net)) (sym same)
    (found_ring_over (λ u h. (λ steps. steps_from start steps, λ steps. steps_from move.start steps)) found)) tags
state_from move start state (Some (Missing a u)) turns other same tags (missing_step address below must lacks others) = missing_step address
    (λ b less. sound_at_from start (below b less)) must (λ has. lacks (has_step_from move.start has))
    (λ v before has_to. has_step_from start (others v before has_to))

-- what is told of a state from the start on, with the tags by it
pub told_at_start : (move : Migration) (start state : State) (found : Option Told) (turns other : List Turn) → routers_of other ≡ routers_of turns →
    IfSome found (λ fault. TurnsAreTagged (started start move) fault other) → IfNone found (IsSound move state) →
    IfSome found (λ fault. IsFault move state (told_fault fault turns)) →
    (IsNone found ↔ IsSound (started start move) state) × IfSome found (λ fault. IsFault (started start move) state (told_fault fault other))
told_at_start move start state None turns other same tags sound fault = (none_sound (started start move) state None other (sound_from start sound) tt, tt)
told_at_start move start state (Some told) turns other same tags sound fault =
    let from = state_from move start state (Some told) turns other same tags fault in
    (none_sound (started start move) state (Some told) other tt from, from)

-- no other answer changes the ring, in two steps
pub keeps_twice : (found : Option Told) (one two three : List Turn) → KeepsRing found one two → KeepsRing found two three → KeepsRing found one three
keeps_twice found one two three first after = grind (arith, common_steps)

-- and of a timetable
pub told_from_start : (move : Migration) (start : State) (time : Timetable) (found : Option (ℕ × Told)) (turns other : List Turn) →
    IsTimetable (length move.net) start time → routers_of other ≡ routers_of turns →
    IfSome (told found) (λ fault. TurnsAreTagged (started start move) fault other) →
    IfNone found ((state : State) → IsStateOfSomeWave (length move.net) time state → IsSound move state) →
    IfSome found (λ f. IsTimesFault move time f.0 (told_fault f.1 turns)) →
    (IsNone found ↔ IsSoundThroughout (started start move) time)
    × IfSome found (λ f. IsTimesFault (started start move) time f.0 (told_fault f.1 other))
told_from_start move start time None turns other table same tags sound fault =
    (none_throughout (started start move) time None other table (λ state is. sound_from start (sound state is)) tt, tt)
told_from_start move start time (Some found) turns other table same tags sound fault =
    let from = told_from move start time (Some found) turns other same tags fault in
    (none_throughout (started start move) time (Some found) other table tt from, from)

-- The routers of a ring whose turns are written anew

pub must_from : (move : Migration) (start : State) (a u h : ℕ) → StepsFrom move start a u h → MustForward move.net a u
must_from move start a u h it_5 = grind (arith, common_steps)

-- the router at a place steps to the next one
pub step_at : (move : Migration) (start : State) (a place : ℕ) (routers : List ℕ) (ring : List Turn) (d : Turn) → routers_of ring ≡ routers →
    AroundRing (StepsFrom move start a) routers → place < length ring →
    StepsFrom move start a (get_or ring place d).router (next_in (routers_of ring) place)
step_at move start a place routers ring d same around within =
    subst (λ (u : ℕ). StepsFrom move start a u (next_in (routers_of ring) place)) (get_or-map (λ (t : Turn). t.router) ring place d 0 within)
    (ring_step (StepsFrom move start a) (routers_of ring) place (subst (AroundRing (StepsFrom move start a)) (sym same) around)
    (omega (arith, within, length-map ring (λ (t : Turn). t.router))))

-- it is one of the network
pub router_below : (move : Migration) (start : State) (a place : ℕ) (routers : List ℕ) (ring : List Turn) (d : Turn) → routers_of ring ≡ routers →
    AroundRing (StepsFrom move start a) routers → place < length ring → (get_or ring place d).router < length move.net
router_below move start a place routers ring d same around within =
    (must_from move start a (get_or ring place d).router (next_in (routers_of ring) place)
    (step_at move start a place routers ring d same around within)).router

-- a turn for the router at a place leaves the routers as they are
pub same_routers : (ring : List Turn) (place : ℕ) (turn d : Turn) → place < length ring → turn.router ≡ (get_or ring place d).router →
    routers_of (set ring place turn) ≡ routers_of ring
same_routers ring place turn d within same = map-set (λ (t : Turn). t.router) ring place turn
    ∙ ap (λ (u : ℕ). set (routers_of ring) place u) (same ∙ sym (get_or-map (λ (t : Turn). t.router) ring place d 0 within))
    ∙ set-get_or (routers_of ring) place 0

-- its tag by the start
pub tag_from : (move : Migration) (start : State) (a next : ℕ) (turn : Turn) →
    IsTagOf turn.tag (Steps move turn.router (start turn.router) a next) (Steps move turn.router New a next) → IsTag (started start move) a turn next
tag_from move start a next turn is = record {
  steps = tags_over turn.tag (λ steps. steps_from start steps, λ steps. steps_from move.start steps)
      (λ steps. steps_from start steps, λ steps. steps_from move.start steps) is;
}

-- and one turn more has its tag
pub tags_more : (move : Migration) (a place : ℕ) (routers : List ℕ) (ring : List Turn) (turn : Turn) → place < length ring →
    IsTag move a turn (next_in routers place) → ((d : Turn) (k : ℕ) → k < place → IsTag move a (get_or ring k d) (next_in routers k)) →
    (d : Turn) (k : ℕ) → k < place + 1 → IsTag move a (get_or (set ring place turn) k d) (next_in routers k)
tags_more move a place routers ring turn within tagged before d =
    below_more (λ (k : ℕ). IsTag move a (get_or (set ring place turn) k d) (next_in routers k)) place
    (λ k below. subst (λ (t : Turn). IsTag move a t (next_in routers k))
    (sym (get_or-set_other ring place k turn d (λ same. omega (arith, same, below)))) (before d k below))
    (subst (λ (t : Turn). IsTag move a t (next_in routers place)) (sym (get_or-set_same ring place turn d within)) tagged)

-- What is known of the start

-- where the start is all Old, what is known of it is known of that state
pub begun_old : (m : Mix) (start : State) (begun old : Bool) → OnTrue begun (Sound m start) → OnTrue old (start ≡ all_old) →
    OnTrue (begun && old) (Sound m all_old)
begun_old m start begun old sound is = grind (arith, common_steps)
