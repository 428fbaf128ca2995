-- The states in which the waves of a timetable begin.
use Rattle.std.proofs.lemmas.Grind.{common_steps}
use Rattle.std.proofs.Common.{◌≡◌, ℕ, ◌+◌, ◌-◌, ◌<◌, ◌≤◌, if◌then◌else◌, Bool, true, false, ltb, min, arith, sym, ap, ◌∙◌}
use Rattle.std.proofs.lemmas.Bool.{cases_lt, lt-ltb, le-ltb, false≢true}
use Rattle.igp_theory.specs.Phases.{State, made_in}
use Rattle.igp_theory.specs.Timetables.{Timetable, IsBetweenPhases, IsTimetable, IsStateOfWave, is_made, state_before}
use Rattle.igp_theory.specs.Changes.{Change, first, second, changed}
use Rattle.igp_theory.specs.declared.phase.Phase.{Phase}
use Rattle.igp_theory.specs.declared.phase.Phase.TheVariants.{Old, Middle, New}

-- the phase of a router by which of its changes are made
abbrev phase_by : Bool → Bool → Phase
phase_by both one = if both then New else if one then Middle else Old

pub before_new : (time : Timetable) (w u : ℕ) → time (second u) < w → state_before time w u ≡ New
before_new time w u made = ap (λ b. if b then New else if ltb (time (first u)) w then Middle else Old) (lt-ltb (time (second u)) w made)

pub before_middle : (time : Timetable) (w u : ℕ) → time (first u) < w → w ≤ time (second u) → state_before time w u ≡ Middle
before_middle time w u made left = grind (arith, common_steps, le-ltb, lt-ltb)

pub before_old : (time : Timetable) (w u : ℕ) → w ≤ time (first u) → w ≤ time (second u) → state_before time w u ≡ Old
before_old time w u one two = grind (arith, common_steps, le-ltb)

-- how many changes are made when a wave begins: each one of an earlier wave
pub made_before : (time : Timetable) (w u : ℕ) → time (first u) ≤ time (second u) →
    made_in (state_before time w u) ≡ min 1 (w - time (first u)) + min 1 (w - time (second u))
made_before time w u turn = grind (arith, common_steps, before_middle, before_new, before_old, cases_lt)

module _ {n : ℕ} {start : State} {time : Timetable} (table : IsTimetable n start time) where
  -- so are those that are made at the start
  pub made_at_start : (u : ℕ) → u < n → made_in (start u) ≡ min 1 (1 - time (first u)) + min 1 (1 - time (second u))
  made_at_start u below = sym (ap made_in (table.begins u below)) ∙ made_before time 1 u (table.in_order u)

  -- no phase is left again
  pub made_grows : (u v w : ℕ) → v ≤ w → made_in (state_before time v u) ≤ made_in (state_before time w u)
  made_grows u v w upto =
      omega (arith, upto, made_before time v u (table.in_order u), made_before time w u (table.in_order u))

  pub start_first : (u w : ℕ) → u < n → 1 ≤ w → made_in (start u) ≤ made_in (state_before time w u)
  start_first u w below from =
      omega (arith, from, made_at_start u below, made_before time w u (table.in_order u))

  -- the states in which a wave begins and ends are states of it
  pub first_of_wave : (w : ℕ) → IsStateOfWave n time w (state_before time w)
  first_of_wave w u below = record { from = omega arith; upto = made_grows u w (w + 1) (omega arith) }

  pub last_of_wave : (w : ℕ) → IsStateOfWave n time w (state_before time (w + 1))
  last_of_wave w u below = record { from = made_grows u w (w + 1) (omega arith); upto = omega arith }

  -- in a state of wave w a change that is made is of a wave up to w, one that isn't is of a wave from w on
  pub made_upto : (w : ℕ) (phase : Phase) (c : Change) → IsBetweenPhases (state_before time w (changed c)) (state_before time (w + 1) (changed c)) phase →
      is_made phase c ≡ true → time c ≤ w
  made_upto w Old c between made = absurd (false≢true made)
  made_upto w Middle (first u) between made =
      omega (arith, between.upto, made_before time (w + 1) u (table.in_order u), table.in_order u)
  made_upto w Middle (second u) between made = absurd (false≢true made)
  made_upto w New (first u) between made =
      omega (arith, between.upto, made_before time (w + 1) u (table.in_order u))
  made_upto w New (second u) between made =
      omega (arith, between.upto, made_before time (w + 1) u (table.in_order u))

  pub left_from : (w : ℕ) (phase : Phase) (c : Change) → IsBetweenPhases (state_before time w (changed c)) (state_before time (w + 1) (changed c)) phase →
      is_made phase c ≡ false → w ≤ time c
  left_from w Old (first u) between left = omega (arith, between.from, made_before time w u (table.in_order u))
  left_from w Old (second u) between left = omega (arith, between.from, made_before time w u (table.in_order u))
  left_from w Middle (first u) between left = absurd (false≢true (sym left))
  left_from w Middle (second u) between left =
      omega (arith, between.from, made_before time w u (table.in_order u), table.in_order u)
  left_from w New c between left = absurd (false≢true (sym left))
