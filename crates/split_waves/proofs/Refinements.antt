-- A run of a refinement is a run of the list that it refines.
use Rattle.std.proofs.Common.{ℕ, ◌+◌, ◌<◌, ◌≤◌, Bool, true, false, if◌then◌else◌, List, length, get_or, inl, inr, subst, arith}
use Rattle.std.proofs.lemmas.Bool.{cases_lt}
use Rattle.std.proofs.lemmas.List.Elements.{Contains-get_or}
use Rattle.order_core.specs.Rankings.{IsRanking, rank_of}
use Rattle.igp_theory.specs.Changes.{Change, changed}
use Rattle.igp_theory.specs.Migrations.{Migration}
use Rattle.igp_theory.specs.Phases.{State}
use Rattle.igp_theory.specs.Timetables.{MayPrecede, IsLeft, IsRun, IsStateOf, is_made, router_times}
use Rattle.igp_theory.specs.Waves.{AreSeamlessWaves}
use Rattle.igp_theory.proofs.Switches.{routers_have_times}
use Rattle.split_waves.specs.Refinements.{Refines}

-- the wave of a change by whether it is made at the start, and by its router's rank
abbrev wave_time : Bool → ℕ → ℕ
wave_time made rank = if made then 0 else rank + 1

left_alike : (made : Bool) (rank other : ℕ) → 0 < wave_time made rank → 0 < wave_time made other
left_alike true rank other left = left
left_alike false rank other left = omega arith

time_alike : (c_made d_made : Bool) (c_rank d_rank c_other d_other : ℕ) → (c_rank ≤ d_rank → c_other ≤ d_other) → 0 < wave_time d_made d_rank →
    wave_time c_made c_rank ≤ wave_time d_made d_rank → wave_time c_made c_other ≤ wave_time d_made d_other
time_alike true d_made c_rank d_rank c_other d_other over left le = omega arith
time_alike false true c_rank d_rank c_other d_other over left le = absurd (omega (arith, left))
time_alike false false c_rank d_rank c_other d_other over left le = let upto = over (omega (arith, le)) in omega (arith, upto)

module _ (start : State) (coarse fine : List ℕ) (refines : Refines coarse fine) where
  not_later : (u v : ℕ) → u < length coarse → v < length coarse → rank_of fine u ≤ rank_of fine v → rank_of coarse u ≤ rank_of coarse v
  not_later u v u_in v_in le = elim (cases_lt (rank_of coarse v) (rank_of coarse u)) [
    | inl lower ↦ absurd (omega (arith, le, refines.keeps v u v_in u_in lower))
    | inr other ↦ other
  ]

  precedes : (c d : Change) → changed c < length coarse → IsLeft (length coarse) (router_times start fine) d →
      MayPrecede (router_times start fine) c d → MayPrecede (router_times start coarse) c d
  precedes c d c_in d_left may = record {
    other = may.other;
    wave = time_alike (is_made (start (changed c)) c) (is_made (start (changed d)) d) (rank_of fine (changed c)) (rank_of fine (changed d))
        (rank_of coarse (changed c)) (rank_of coarse (changed d)) (not_later (changed c) (changed d) c_in d_left.0) d_left.1 may.wave;
    half = may.half;
  }

  coarse_run : (run : List Change) → IsRun (length coarse) (router_times start fine) run → IsRun (length coarse) (router_times start coarse) run
  coarse_run run is = record {
    all = λ c. (
      λ inside.
          let left = (is.all c).0 inside in (left.0, left_alike (is_made (start (changed c)) c) (rank_of fine (changed c)) (rank_of coarse (changed c)) left.1),
      λ left. (is.all c).1 (left.0, left_alike (is_made (start (changed c)) c) (rank_of coarse (changed c)) (rank_of fine (changed c)) left.1),
    );
    in_turn = λ i j d before within.
        precedes (get_or run i d) (get_or run j d) ((is.all (get_or run i d)).0 (Contains-get_or run i d (omega (arith, before, within)))).0
        ((is.all (get_or run j d)).0 (Contains-get_or run j d within)) (is.in_turn i j d before within);
  }

  pub coarse_state : (state : State) → IsStateOf (length coarse) start (router_times start fine) state →
      IsStateOf (length coarse) start (router_times start coarse) state
  coarse_state state is = record { run = is.run; is_run = coarse_run is.run is.is_run; k = is.k; after = is.after }

pub no_other_states : (move : Migration) (coarse fine : List ℕ) (state : State) → IsRanking (length move.net) coarse → Refines coarse fine →
    IsStateOf (length move.net) move.start (router_times move.start fine) state →
    IsStateOf (length move.net) move.start (router_times move.start coarse) state
no_other_states move coarse fine state ranking refines =
    subst (λ n. IsStateOf n move.start (router_times move.start fine) state → IsStateOf n move.start (router_times move.start coarse) state)
    ranking.each (coarse_state move.start coarse fine refines state)

pub refinement_is_seamless : (move : Migration) (coarse fine : List ℕ) → AreSeamlessWaves move coarse → IsRanking (length move.net) fine →
    Refines coarse fine → AreSeamlessWaves move fine
refinement_is_seamless move coarse fine seamless ranking refines = record {
  waves = ranking;
  throughout = record {
    table = routers_have_times (length move.net) move.start fine;
    sound = λ state is. seamless.throughout.sound state (no_other_states move coarse fine state seamless.waves refines is);
  };
}
