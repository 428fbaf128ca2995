-- Timetables that are looked at wave by wave, and how one becomes another.
use Rattle.std.specs.Prelude.{◌≡◌, ℕ, ◌≤◌, ◌⊎◌}
use Rattle.igp_theory.specs.Changes.{first, second}
use Rattle.igp_theory.specs.Timetables.{Timetable}
use Rattle.loop_finder.specs.declared.times.ChangeWaves.{ChangeWaves}

-- no router's second change stands in an earlier wave than its first
abbrev pub IsInOrder : Timetable → Type 0
IsInOrder time = (u : ℕ) → time (first u) ≤ time (second u)

-- the number of a change's wave stays, or it was and is at least this one
abbrev pub IsMovedFrom : ℕ → ℕ → ℕ → Type 0
IsMovedFrom least was now = (was ≡ now) ⊎ ((least ≤ was) × (least ≤ now))

-- so do both changes of a router
pub record AreMovedFrom (least : ℕ) (was now : ChangeWaves) : Type 0 where
  pub first : IsMovedFrom least was.first now.first
  pub second : IsMovedFrom least was.second now.second
