-- Wave lists that refine others: what comes in an earlier wave stays in an earlier wave.
use Rattle.std.specs.Prelude.{◌≡◌, ℕ, ◌<◌, List, length}
use Rattle.order_core.specs.Rankings.{IsRanking, KeepsPair}
use Rattle.igp_theory.specs.Migrations.{Migration}
use Rattle.igp_theory.specs.Phases.{State}
use Rattle.igp_theory.specs.Timetables.{IsStateOf, router_times}
use Rattle.igp_theory.specs.Waves.{AreSeamlessWaves}

-- a ranking refines another one of as many routers: it keeps each "u before v" that the other keeps
pub record Refines (coarse fine : List ℕ) : Type 0 where
  pub each : length fine ≡ length coarse
  pub keeps : (u v : ℕ) → u < length coarse → v < length coarse → KeepsPair coarse (u, v) → KeepsPair fine (u, v)

-- so the states of a refinement are among those of the list that it refines
abbrev pub RefinementsHaveNoOtherStates : Migration → Type 0
RefinementsHaveNoOtherStates move =
    (coarse fine : List ℕ) (state : State) → IsRanking (length move.net) coarse → Refines coarse fine →
    IsStateOf (length move.net) move.start (router_times move.start fine) state →
    IsStateOf (length move.net) move.start (router_times move.start coarse) state

-- and each refinement of a seamless wave list is seamless
abbrev pub RefinementsAreSeamless : Migration → Type 0
RefinementsAreSeamless move =
    (coarse fine : List ℕ) → AreSeamlessWaves move coarse → IsRanking (length move.net) fine → Refines coarse fine → AreSeamlessWaves move fine
