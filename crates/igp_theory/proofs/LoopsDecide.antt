-- Loops decide whether a migration is sound throughout, and which wave lists are seamless.
use Rattle.std.proofs.lemmas.Grind.{common_steps}
use Rattle.std.proofs.Common.{◌≡◌, ℕ, ◌+◌, ◌^◌, ◌<◌, ◌≤◌, ◌⊎◌, inl, inr, List, [], ◌∷◌, length, Contains, refl, sym, ap, subst, arith}
use Rattle.std.proofs.lemmas.Bool.{cases_lt}
use Rattle.order_core.specs.Orders.{AreDistinct}
use Rattle.order_core.specs.Turns.{routers_of, old_routers, new_routers, HasBothTags}
use Rattle.order_core.specs.declared.turn.Turn.{Turn}
use Rattle.igp_theory.specs.LoopLaws.{IsFromStart, AreSoundEnds, IsLoopOfState}
use Rattle.igp_theory.specs.Loops.{IsTag, AroundRing, IsLoop, Arises}
use Rattle.igp_theory.specs.Migrations.{Migration}
use Rattle.igp_theory.specs.Phases.{State}
use Rattle.igp_theory.specs.States.{StepsIn, IsSound}
use Rattle.igp_theory.specs.TimetableLaws.{StepsRound, GoesRound, ArisesInWave, SwitchesIn, AreSwitched, SwitchesSomeOldFirst, IsBroken}
use Rattle.igp_theory.specs.Timetables.{Timetable, IsTimetable, IsStateOfWave, IsSoundThroughout, state_before}
use Rattle.igp_theory.specs.WaveFaults.{StepsInSome}
use Rattle.net_model.proofs.Members.{Contains-none, Contains-first, Contains-rest, Contains-cases}
use Rattle.igp_theory.proofs.ForwardingLaws.{later_phase_steps}
use Rattle.igp_theory.proofs.LoopLaws.{old_turn, new_turn, old_listed, new_listed, arising_is_unsound, ring_between_ends}
use Rattle.igp_theory.proofs.Rings.{around_inside, around_both, around_at, StepRing, ring_of_return, around_of_routers, turns_distinct, some_turn}
use Rattle.igp_theory.proofs.Tags.{IsTagTo, AreTagged}
use Rattle.igp_theory.proofs.TimetableStates.{state_of_wave, wave_is_reached}
use Rattle.igp_theory.proofs.Timetables.{first_of_wave, start_first}
use Rattle.std.proofs.Common.{◌^◌, ◌<◌, length}
use Rattle.order_core.specs.Rankings.{IsRanking, rank_of}
use Rattle.order_core.specs.Turns.{HasBothTags, RanksSomeOldFirst}
use Rattle.igp_theory.specs.LoopLaws.{PutsSomeOldFirstInEach}
use Rattle.igp_theory.specs.Loops.{Fault, loop}
use Rattle.igp_theory.specs.TimetableLaws.{StandsRoundWave, IsLoopOfWave}
use Rattle.igp_theory.specs.Timetables.{router_times}
use Rattle.igp_theory.specs.WaveFaults.{IsFaultOver, missing_in_one, loop_over_all, IsTimesFault}
use Rattle.igp_theory.specs.Waves.{AreSeamlessWaves}
use Rattle.igp_theory.proofs.Rings.{found_goes_round, found_distinct}
use Rattle.igp_theory.proofs.Switches.{routers_have_times, router_switches}
use Rattle.igp_theory.proofs.TaggedRings.{TaggedRing, tagged_ring}
use Rattle.igp_theory.proofs.WaveLoops.{InWave, StepsAlong, steps_along, goes_round, arises_round, turn_round}

-- Loops decide

-- a router of the latest wave
record IsLatest (switch : ℕ → ℕ) (routers : List ℕ) (u : ℕ) : Type 0 where
  among : Contains routers u
  latest : (v : ℕ) → Contains routers v → switch v ≤ switch u

latest_router : (switch : ℕ → ℕ) (u : ℕ) (routers : List ℕ) → (v : ℕ) × IsLatest switch (u ∷ routers) v
latest_router switch u [] = (
  u,
  record {
    among = Contains-first u [];
    latest = λ v inside. elim (Contains-cases u [] v inside) [
      | inl same ↦ let e : switch u ≡ switch v = ap switch same in omega (arith, e)
      | inr none ↦ absurd (Contains-none v none)
    ];
  },
)
latest_router switch u (x ∷ routers) =
    let rest = latest_router switch x routers in
    let among = rest.1.among in
    elim (cases_lt (switch rest.0) (switch u)) [
      | inl later ↦ (
        u,
        record {
          among = Contains-first u (x ∷ routers);
          latest = λ v inside. elim (Contains-cases u (x ∷ routers) v inside) [
            | inl same ↦ let e : switch u ≡ switch v = ap switch same in omega (arith, e)
            | inr there ↦ let k = rest.1.latest v there in omega (arith, k, later)
          ];
        },
      )
      | inr earlier ↦ (
        rest.0,
        record {
          among = Contains-rest u (x ∷ routers) rest.0 among;
          latest = λ v inside. elim (Contains-cases u (x ∷ routers) v inside) [
            | inl same ↦ let e : switch u ≡ switch v = ap switch same in omega (arith, e, earlier)
            | inr there ↦ rest.1.latest v there
          ];
        },
      )
    ]

latest_of_some : (switch : ℕ → ℕ) (routers : List ℕ) → 0 < length routers → (v : ℕ) × IsLatest switch routers v
latest_of_some switch [] some = absurd (omega (arith, some))
latest_of_some switch (u ∷ routers) some = latest_router switch u routers

-- a router of an earlier wave than w, or none
earlier_or_none : (switch : ℕ → ℕ) (w : ℕ) (routers : List ℕ) →
    ((u : ℕ) × Contains routers u × (switch u < w)) ⊎ ((u : ℕ) → Contains routers u → w ≤ switch u)
earlier_or_none switch w [] = inr (λ u inside. absurd (Contains-none u inside))
earlier_or_none switch w (x ∷ routers) = elim (cases_lt (switch x) w) [
  | inl earlier ↦ inl (x, Contains-first x routers, earlier)
  | inr late ↦ elim (earlier_or_none switch w routers) [
    | inl one ↦ inl (one.0, Contains-rest x routers one.0 one.1, one.2)
    | inr none ↦ inr (λ u inside. elim (Contains-cases x routers u inside) [
      | inl same ↦ let e : switch x ≡ switch u = ap switch same in omega (arith, e, late)
      | inr there ↦ none u there
    ])
  ]
]

-- the wave in which a turn of a ring is switched
abbrev IsSwitchedTo : Migration → Timetable → ℕ → (ℕ → ℕ) → Turn → Turn → Type 0
IsSwitchedTo move time a switch r s = SwitchesIn move time a r s.router (switch r.router)

module _ (move : Migration) (time : Timetable) (a : ℕ) (ring : List Turn) (switch : ℕ → ℕ) (each : AreSwitched move time a switch ring) where
  switched : (u : ℕ) → Contains (new_routers ring) u → 1 ≤ switch u
  switched u inside =
      let one = new_turn ring u inside in
      let at = around_at (IsSwitchedTo move time a switch) ring one.turn each one.among in
      subst (λ v. 1 ≤ switch v) one.router at.1.from_one

  -- round a wave Old turns aren't switched before it, nor New ones after it
  module _ (w : ℕ) (one : 1 ≤ w) (round : GoesRound move time a w ring) where
    at_turn : (r : Turn) → Contains ring r → (s : Turn) × (IsSwitchedTo move time a switch r s × StepsRound move time a w r.router s.router)
    at_turn r inside = around_at (λ (x y : Turn). IsSwitchedTo move time a switch x y × StepsRound move time a w x.router y.router) ring r
        (around_both (IsSwitchedTo move time a switch) (λ (x y : Turn). StepsRound move time a w x.router y.router) ring each round) inside

    pub old_from : (u : ℕ) → Contains (old_routers ring) u → w ≤ switch u
    old_from u inside =
        let turn = old_turn ring u inside in
        let at = at_turn turn.turn turn.among in
        subst (λ v. w ≤ switch v) turn.router ((at.1.0.old turn.tagged w one).0 at.1.1)

    pub new_upto : (u : ℕ) → Contains (new_routers ring) u → switch u ≤ w
    new_upto u inside =
        let turn = new_turn ring u inside in
        let at = at_turn turn.turn turn.among in
        subst (λ v. switch v ≤ w) turn.router ((at.1.0.new turn.tagged w one).0 at.1.1)

pub sound_switches_old_first : (move : Migration) (time : Timetable) (a : ℕ) (ring : List Turn) (switch : ℕ → ℕ) → IsSoundThroughout move time →
    IsLoop move a ring → HasBothTags ring → AreSwitched move time a switch ring → SwitchesSomeOldFirst switch ring
sound_switches_old_first move time a ring switch sound is both each =
    let last = latest_of_some switch (new_routers ring) both.new in
    let w : ℕ = switch last.0 in
    let one : 1 ≤ w = switched move time a ring switch each last.0 last.1.among in
    elim (earlier_or_none switch w (old_routers ring)) [
      | inl first ↦ record { old = first.0; new = last.0; is_old = first.1; is_new = last.1.among; earlier = first.2 }
      | inr none ↦
          let there : ArisesInWave move time w a ring = arises_round move time sound.table w a ring is.distinct
          (around_inside (λ (r s : Turn). IsTag move a r s.router × IsSwitchedTo move time a switch r s)
          (λ (r s : Turn). StepsRound move time a w r.router s.router) ring
          (λ r s inside at. turn_round move time sound.table w a s.router (switch r.router) r one at.0 at.1
          (λ is_old. none r.router (old_listed ring r inside is_old)) (λ is_new. last.1.latest r.router (new_listed ring r inside is_new)))
          (around_both (IsTagTo move a) (IsSwitchedTo move time a switch) ring is.tags each)) in
          absurd (arising_is_unsound move there.state a ring is there.arises
          (sound.sound there.state (wave_is_reached sound.table there.state (record { wave = w; from_one = one; of_wave = there.of_wave }))))
    ]

-- Between sound ends that is enough

-- a state of a wave is one from the start on
wave_from_start : (move : Migration) (time : Timetable) → IsTimetable (length move.net) move.start time → (w : ℕ) (state : State) → 1 ≤ w →
    IsStateOfWave (length move.net) time w state → IsFromStart move state
wave_from_start move time table w state one of_wave u below = grind (arith, common_steps, start_first)

module _ (move : Migration) (time : Timetable) (ends : AreSoundEnds move) (table : IsTimetable (length move.net) move.start time)
    (broken : (a : ℕ) (ring : List Turn) → IsLoop move a ring → HasBothTags ring → IsBroken move time a ring) where
  -- what a ring in a state of a wave would say
  ring_breaks : (w : ℕ) (state : State) (a u : ℕ) (rest : List ℕ) → 1 ≤ w → a < 2 ^ 32 → IsStateOfWave (length move.net) time w state →
      AreDistinct (u ∷ rest) → AroundRing (StepsIn move state a) (u ∷ rest) → TaggedRing move a (u ∷ rest) → ⊥
  ring_breaks w state a u rest one address of_wave distinct goes tagged =
      let some : 0 < length tagged.ring = some_turn tagged.ring u rest tagged.same in
      let arises : Arises move state a tagged.ring = around_of_routers (StepsIn move state a) tagged.ring
      (subst (AroundRing (StepsIn move state a)) (sym tagged.same) goes) in
      let is : IsLoopOfState move state a tagged.ring = ring_between_ends move state a tagged.ring ends address some
      (turns_distinct tagged.ring (subst AreDistinct (sym tagged.same) distinct)) tagged.tags arises in
      let breaks : IsBroken move time a tagged.ring = broken a tagged.ring is.is_loop is.both in
      let round : GoesRound move time a w tagged.ring =
      goes_round move time table w a tagged.ring (record { state = state; of_wave = of_wave; arises = arises }) in
      let from = old_from move time a tagged.ring breaks.switch breaks.each w one round breaks.first.old breaks.first.is_old in
      let upto = new_upto move time a tagged.ring breaks.switch breaks.each w one round breaks.first.new breaks.first.is_new in
      let before = breaks.first.earlier in
      omega (arith, from, upto, before)

  wave_is_sound : (w : ℕ) (state : State) → 1 ≤ w → IsStateOfWave (length move.net) time w state → IsSound move state
  wave_is_sound w state one of_wave a address =
      let from : IsFromStart move state = wave_from_start move time table w state one of_wave in
      record {
        forwards = λ u must. later_phase_steps (move.start u) ((ends.first a address).forwards u must) ((ends.last a address).forwards u must)
            (state u) (from u must.router);
        returns_never = λ u h hops follows.
            let ring : StepRing (StepsIn move state a) = ring_of_return (StepsIn move state a) u h hops follows in
            tagged_ring move state a ring.first ring.others from ring.goes
            (ring_breaks w state a ring.first ring.others one address of_wave ring.distinct ring.goes);
      }

  pub old_first_is_sound : IsSoundThroughout move time
  old_first_is_sound = record {
    table = table;
    sound = λ state is. let some = state_of_wave table state is in wave_is_sound some.wave state some.from_one some.of_wave;
  }

-- The fault of a wave between sound ends

module _ (move : Migration) (time : Timetable) (ends : AreSoundEnds move) (table : IsTimetable (length move.net) move.start time) where
  -- a ring over every hop of a wave's states, with its tags, is a loop of the wave
  ring_of_wave : (w a : ℕ) (ring : List Turn) (u : ℕ) (rest : List ℕ) → a < 2 ^ 32 → routers_of ring ≡ u ∷ rest → AreDistinct (routers_of ring) →
      AreTagged move a ring → AroundRing (StepsInSome move (IsStateOfWave (length move.net) time w) a) (routers_of ring) →
      IsLoopOfWave move time w (loop a ring)
  ring_of_wave w a ring u rest address begins distinct tags goes =
      let there : StepsAlong move (InWave time w) a u (u ∷ rest) =
      steps_along move (InWave time w) a (state_before time w) (first_of_wave table w) u (u ∷ rest) (subst AreDistinct begins distinct)
      (subst (AroundRing (StepsInSome move (IsStateOfWave (length move.net) time w) a)) begins goes) in
      let arises : Arises move there.state a ring = around_of_routers (StepsIn move there.state a) ring
      (subst (AroundRing (StepsIn move there.state a)) (sym begins) there.goes) in
      let is : IsLoopOfState move there.state a ring =
      ring_between_ends move there.state a ring ends address (some_turn ring u rest begins) (turns_distinct ring distinct) tags arises in
      record {
        address = a;
        ring = ring;
        is = refl;
        is_loop = is.is_loop;
        both = is.both;
        arises = record { state = there.state; of_wave = there.among; arises = arises };
      }

  fault_of_wave : (w : ℕ) (fault : Fault) → 1 ≤ w → IsFaultOver move (IsStateOfWave (length move.net) time w) fault → IsLoopOfWave move time w fault
  fault_of_wave w fault one (missing_in_one {a = a} {u = u} least lacks lowest) =
      let first = (ends.first a least.address).forwards u lacks.must in
      let last = (ends.last a least.address).forwards u lacks.must in
      absurd (lacks.lacks (later_phase_steps (move.start u) first last (lacks.state u)
      (wave_from_start move time table w lacks.state one lacks.among u lacks.must.router)))
  fault_of_wave w fault one (loop_over_all {a = a} {ring = ring} least forwards found tags) =
      ring_of_wave w a ring found.lowest found.others least.address found.first (found_distinct found) tags (found_goes_round found)

  pub times_fault_between_ends : (w : ℕ) (fault : Fault) → IsTimesFault move time w fault → IsLoopOfWave move time w fault
  times_fault_between_ends w fault is = fault_of_wave w fault is.from_one is.here

-- Where routers are ranked

module _ (move : Migration) (ranks : List ℕ) where
  -- each turn of a loop is switched in the wave of its router
  ring_switched : (a : ℕ) (ring : List Turn) → AreTagged move a ring →
      AreSwitched move (router_times move.start ranks) a (λ u. rank_of ranks u + 1) ring
  ring_switched a ring tags = around_inside (IsTagTo move a) (IsSwitchedTo move (router_times move.start ranks) a (λ u. rank_of ranks u + 1)) ring
      (λ r s inside tagged. router_switches move ranks a r s.router tagged) tags

  -- so a loop arises in a state of a wave exactly where it stands round it
  pub stands_round : (w a : ℕ) (ring : List Turn) → 1 ≤ w → AreTagged move a ring → ArisesInWave move (router_times move.start ranks) w a ring →
      StandsRoundWave ranks w ring
  stands_round w a ring one tags there =
      let each = ring_switched a ring tags in
      let round = goes_round move (router_times move.start ranks) (routers_have_times (length move.net) move.start ranks) w a ring there in
      record {
        new = λ u inside. new_upto move (router_times move.start ranks) a ring (λ v. rank_of ranks v + 1) each w one round u inside;
        old = λ u inside. old_from move (router_times move.start ranks) a ring (λ v. rank_of ranks v + 1) each w one round u inside;
      }

  pub arises_where : (w a : ℕ) (ring : List Turn) → 1 ≤ w → IsLoop move a ring → StandsRoundWave ranks w ring →
      ArisesInWave move (router_times move.start ranks) w a ring
  arises_where w a ring one is round =
      arises_round move (router_times move.start ranks) (routers_have_times (length move.net) move.start ranks) w a ring is.distinct
      (around_inside (IsTagTo move a) (λ (r s : Turn). StepsRound move (router_times move.start ranks) a w r.router s.router) ring
      (λ r s inside tagged. turn_round move (router_times move.start ranks) (routers_have_times (length move.net) move.start ranks) w a s.router
      (rank_of ranks r.router + 1) r one tagged (router_switches move ranks a r s.router tagged)
      (λ is_old. round.old r.router (old_listed ring r inside is_old)) (λ is_new. round.new r.router (new_listed ring r inside is_new))) is.tags)

  pub seamless_puts_old_first : AreSeamlessWaves move ranks → PutsSomeOldFirstInEach move ranks
  seamless_puts_old_first seamless a ring is both =
      let first : SwitchesSomeOldFirst (λ u. rank_of ranks u + 1) ring =
      sound_switches_old_first move (router_times move.start ranks) a ring (λ u. rank_of ranks u + 1) seamless.throughout is both
      (ring_switched a ring is.tags) in
      let earlier = first.earlier in
      record { old = first.old; new = first.new; is_old = first.is_old; is_new = first.is_new; keeps = omega (arith, earlier) }

  pub old_first_is_seamless : AreSoundEnds move → IsRanking (length move.net) ranks → PutsSomeOldFirstInEach move ranks → AreSeamlessWaves move ranks
  old_first_is_seamless ends waves puts = record {
    waves = waves;
    throughout = old_first_is_sound move (router_times move.start ranks) ends (routers_have_times (length move.net) move.start ranks)
        (λ a ring is both.
        let first : RanksSomeOldFirst ranks ring = puts a ring is both in
        let keeps = first.keeps in
        record {
          switch = λ u. rank_of ranks u + 1;
          each = ring_switched a ring is.tags;
          first = record { old = first.old; new = first.new; is_old = first.is_old; is_new = first.is_new; earlier = omega (arith, keeps) };
        });
  }
