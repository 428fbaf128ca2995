-- Between sound ends what is told of a ranking that isn't good is a loop that breaks it.
use Rattle.std.proofs.Common.{◌≡◌, ℕ, ◌+◌, ◌<◌, ◌≤◌, List, length, map, Contains, All, arith, refl, ap, sym, subst}
use Rattle.order_core.specs.Rankings.{rank_of}
use Rattle.order_core.specs.Turns.{old_routers, new_routers, HasBothTags}
use Rattle.order_core.specs.declared.turn.Turn.{Turn}
use Rattle.igp_theory.specs.LoopLaws.{AreSoundEnds}
use Rattle.igp_theory.specs.Loops.{IsLoop, missing, loop}
use Rattle.igp_theory.specs.Migrations.{Migration}
use Rattle.igp_theory.specs.TimetableLaws.{IsLoopOfWave, ArisesInWave, GoesRound}
use Rattle.igp_theory.specs.Timetables.{IsTimetable, router_times}
use Rattle.igp_theory.proofs.Switches.{routers_have_times}
use Rattle.igp_theory.specs.WaveFaults.{IsTimesFault}
use Rattle.igp_theory.proofs.LoopLaws.{loop_inside, old_turn, new_turn}
use Rattle.igp_theory.proofs.LoopsDecide.{times_fault_between_ends, old_from, new_upto}
use Rattle.igp_theory.proofs.WaveLoops.{goes_round}
use Rattle.order_search.specs.Meanings.{Break, Meaning}
use Rattle.plan_theory.specs.Ranked.{Ranked, routers_ranked}
use Rattle.plan_theory.specs.WavesMeaning.{waves_meaning}
use Rattle.plan_theory.proofs.ItemNumbers.{at, both_of_map, numbers_below, numbers_distinct, old_in_ring, new_in_ring, ring_switched, wave_at, wave_of_number}
use Rattle.plan_theory.proofs.RoutersServe.{routers_ask, routers_serve}
use Rattle.plan_theory.proofs.Serving.{Asks, Serves}

module _ (move : Migration) (r : Ranked) (serves : Serves move r) (m : Meaning) (asks : Asks move r m) (ranks : List ℕ)
    (table : IsTimetable (length move.net) move.start (r.times ranks)) where
  -- where the ring of some turns arises in a wave, no New turn's number stands in a later wave than an Old turn's
  module _ (a : ℕ) (turns : List Turn) (named : All (r.names a) turns) (w : ℕ) (from_one : 1 ≤ w) (is : IsLoop move a (map (at move r serves) turns))
      (there : ArisesInWave move (r.times ranks) w a (map (at move r serves) turns)) where
    round : GoesRound move (r.times ranks) a w (map (at move r serves) turns)
    round = goes_round move (r.times ranks) table w a (map (at move r serves) turns) there

    old_late : (u : ℕ) → Contains (old_routers turns) u → w ≤ rank_of ranks u + 1
    old_late u inside =
        let of = old_turn turns u inside in
        let late = old_from move (r.times ranks) a (map (at move r serves) turns) (wave_at move r serves a turns named ranks table)
        (ring_switched move r serves a turns named ranks table is.tags) w from_one round (serves.router of.turn.router)
        (old_in_ring move r serves a turns named of.turn of.among of.tagged) in
        let wave = wave_of_number move r serves a turns named ranks table of.turn of.among in
        let same = ap (λ (k : ℕ). rank_of ranks k) of.router in
        omega (arith, late, wave, same)

    new_early : (u : ℕ) → Contains (new_routers turns) u → rank_of ranks u + 1 ≤ w
    new_early u inside =
        let of = new_turn turns u inside in
        let early = new_upto move (r.times ranks) a (map (at move r serves) turns) (wave_at move r serves a turns named ranks table)
        (ring_switched move r serves a turns named ranks table is.tags) w from_one round (serves.router of.turn.router)
        (new_in_ring move r serves a turns named of.turn of.among of.tagged) in
        let wave = wave_of_number move r serves a turns named ranks table of.turn of.among in
        let same = ap (λ (k : ℕ). rank_of ranks k) of.router in
        omega (arith, early, wave, same)

  module _ (ends : AreSoundEnds move) where
    -- what is told breaks the ranking
    pub fault_breaks : (w a : ℕ) (turns : List Turn) → IsTimesFault move (r.times ranks) w (loop a (r.ring turns)) → All (r.names a) turns →
        Break m ranks a turns
    fault_breaks w a turns fault named =
        let of : IsLoopOfWave move (r.times ranks) w (loop a (r.ring turns)) =
        times_fault_between_ends move (r.times ranks) ends table w (loop a (r.ring turns)) fault in
        let same : loop a (r.ring turns) ≡ loop of.address of.ring = of.is in
        let address : of.address ≡ a = cc in
        let ring : of.ring ≡ r.ring turns = cc in
        let is : IsLoop move a (r.ring turns) =
        subst (λ (b : ℕ). IsLoop move b (r.ring turns)) address (subst (IsLoop move of.address) ring of.is_loop) in
        let there : ArisesInWave move (r.times ranks) w a (r.ring turns) =
        subst (λ (b : ℕ). ArisesInWave move (r.times ranks) w b (r.ring turns)) address
        (subst (ArisesInWave move (r.times ranks) w of.address) ring of.arises) in
        let by_routers : IsLoop move a (map (at move r serves) turns) = subst (IsLoop move a) (serves.ring_is turns) is in
        let arises : ArisesInWave move (r.times ranks) w a (map (at move r serves) turns) =
        subst (ArisesInWave move (r.times ranks) w a) (serves.ring_is turns) there in
        let both = subst HasBothTags ring of.both in
        record {
          is_real = (asks.real a turns).1 (record { is_loop = is; named = named });
          pick = (asks.picked ranks a turns).1 (record { wave = w; is_fault = fault; named = named });
          distinct = numbers_distinct move r serves a turns named by_routers.distinct;
          below = subst (λ (k : ℕ). All (λ (t : Turn). t.router < k) turns) (sym asks.size)
              (numbers_below move r serves a turns named (loop_inside move a (map (at move r serves) turns) by_routers));
          both = both_of_map (at move r serves) (λ t. refl) turns (subst HasBothTags (serves.ring_is turns) both);
          no_later = λ u v is_old is_new.
              let old = old_late a turns named w fault.from_one by_routers arises u is_old in
              let new = new_early a turns named w fault.from_one by_routers arises v is_new in
              omega (arith, new, old);
        }

    -- no router lacks a step there
    pub no_missing_step : (w a u : ℕ) → IsTimesFault move (r.times ranks) w (missing a u) → ⊥
    no_missing_step w a u fault =
        let is = times_fault_between_ends move (r.times ranks) ends table w (missing a u) fault in
        let clash : missing a u ≡ loop is.address is.ring = is.is in
        cc

-- where routers are ranked
module _ (move : Migration) (ranks : List ℕ) where
  abbrev waves_table : IsTimetable (length move.net) move.start (router_times move.start ranks)
  waves_table = routers_have_times (length move.net) move.start ranks

  pub wave_fault_breaks : (w a : ℕ) (turns : List Turn) → AreSoundEnds move → IsTimesFault move (router_times move.start ranks) w (loop a turns) →
      Break (waves_meaning move) ranks a turns
  wave_fault_breaks w a turns ends fault =
      fault_breaks move (routers_ranked move) (routers_serve move) (waves_meaning move) (routers_ask move) ranks waves_table ends w a turns fault
      (λ k d within. tt)

  pub no_step_lacks : (w a u : ℕ) → AreSoundEnds move → IsTimesFault move (router_times move.start ranks) w (missing a u) → ⊥
  no_step_lacks w a u ends fault =
      no_missing_step move (routers_ranked move) (routers_serve move) (waves_meaning move) (routers_ask move) ranks waves_table ends w a u fault
