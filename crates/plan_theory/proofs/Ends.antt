-- Both ends are states of every timetable, so where one of them isn't sound, nothing is sound throughout; and a list of changes
-- with only sound states is sound throughout where it is the one run.
use Rattle.std.proofs.Common.{◌≡◌, ℕ, zero, suc, ◌+◌, ◌<◌, ◌≤◌, inl, inr, List, length, take, arith, sym, ap, ◌∙◌}
use Rattle.std.proofs.lemmas.Bool.{cases_lt}
use Rattle.igp_theory.specs.Changes.{Change, second}
use Rattle.igp_theory.specs.Migrations.{Migration}
use Rattle.igp_theory.specs.Phases.{all_new}
use Rattle.igp_theory.specs.States.{IsSound}
use Rattle.igp_theory.specs.Timetables.{Timetable, IsTimetable, IsRun, IsSoundThroughout, state_after, state_before}
use Rattle.igp_theory.proofs.AlikeStates.{sound_alike}
use Rattle.igp_theory.proofs.TimetableStates.{wave_is_reached}
use Rattle.igp_theory.proofs.Timetables.{before_new, first_of_wave}
use Rattle.plan_theory.specs.Laws.{IsSoundAlong}

module _ (move : Migration) (time : Timetable) (sound : IsSoundThroughout move time) where
  -- the state in which a wave begins is a state of the timetable
  begin_sound : (w : ℕ) → 1 ≤ w → IsSound move (state_before time w)
  begin_sound w one =
      sound.sound (state_before time w)
      (wave_is_reached sound.table (state_before time w) (record { wave = w; from_one = one; of_wave = first_of_wave sound.table w }))

  -- the first wave begins at the start
  pub begins_sound : IsSound move move.start
  begins_sound = sound_alike sound.table.begins (begin_sound 1 (omega arith))

  -- a wave behind all changes of n routers
  record IsBehind (n w : ℕ) : Type 0 where
    from_one : 1 ≤ w
    later : (u : ℕ) → u < n → time (second u) < w

  behind_all : (n : ℕ) → (w : ℕ) × IsBehind n w
  behind_all zero = (1, record { from_one = omega arith; later = λ u below. absurd (omega (arith, below)) })
  behind_all (suc n) =
      let rest = behind_all n in
      let one = rest.1.from_one in (
        rest.0 + time (second n),
        record {
          from_one = omega (arith, one);
          later = λ u below. elim (cases_lt u n) [
            | inl less ↦ let before = rest.1.later u less in omega (arith, before)
            | inr last ↦
                let same : u ≡ n = omega (arith, below, last) in
                let when = ap (λ (v : ℕ). time (second v)) same in
                omega (arith, one, when)
          ];
        },
      )

  -- behind the last one every router is New
  pub ends_sound : IsSound move all_new
  ends_sound =
      let behind = behind_all (length move.net) in
      sound_alike (λ u below. before_new time behind.0 u (behind.1.later u below)) (begin_sound behind.0 behind.1.from_one)

pub alone_is_sound : (move : Migration) (time : Timetable) (run : List Change) → IsTimetable (length move.net) move.start time →
    ((other : List Change) → IsRun (length move.net) time other → other ≡ run) → IsSoundAlong move run → IsSoundThroughout move time
alone_is_sound move time run table only sound = record {
  table = table;
  sound = λ state is.
      sound_alike
      (λ u below. sym (is.after u below ∙ ap (λ (changes : List Change). state_after move.start (take is.k changes) u) (only is.run is.is_run)))
      (sound is.k);
}
