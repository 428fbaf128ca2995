-- The state that is told of a network, among those that its configurations show: a router without a process may be in several
-- phases.
use Rattle.std.specs.Prelude.{ℕ, ◌<◌, ◌≤◌, List, length}
use Rattle.net_model.specs.Network.{Network}
use Rattle.order_core.specs.Rankings.{rank_of}
use Rattle.igp_theory.specs.Phases.{State, made_in}
use Rattle.igp_theory.specs.declared.phase.Phase.{Phase}
use Rattle.igp_theory.specs.declared.phase.Phase.TheVariants.{New}
use Rattle.observed_night.specs.ShownPhases.{MayBeIn}

-- one of n routers stands in a later wave than router u
pub record HasLaterWave (n : ℕ) (ranks : List ℕ) (u : ℕ) : Type 0 where
  pub later : ℕ
  pub below : later < n
  pub after : rank_of ranks u < rank_of ranks later

-- each router of the wave of router u and of the waves before it may be New
abbrev pub MayAllBeNew : Network → Network → List ℕ → ℕ → Type 0
MayAllBeNew before now ranks u = (v : ℕ) → v < length before → rank_of ranks v ≤ rank_of ranks u → MayBeIn before now v New

-- the wave of router u is done: it isn't the last one, and each router up to it may be New
pub record IsWaveDone (before now : Network) (ranks : List ℕ) (u : ℕ) : Type 0 where
  pub later : HasLaterWave (length before) ranks u
  pub each : MayAllBeNew before now ranks u

-- the phase in which router u may be after the fewest changes
pub record IsLeastPhase (before now : Network) (u : ℕ) (phase : Phase) : Type 0 where
  pub may_be : MayBeIn before now u phase
  pub fewest : (other : Phase) → MayBeIn before now u other → made_in phase ≤ made_in other

-- what is told of router u: it is New in a wave that is done, and elsewhere it has made as few changes as may be
pub data IsToldPhase (before now : Network) (ranks : List ℕ) (u : ℕ) : Phase → Type 0 where
  in_done_wave : IsWaveDone before now ranks u → IsToldPhase before now ranks u New
  elsewhere : (phase : Phase) → (IsWaveDone before now ranks u → ⊥) → IsLeastPhase before now u phase → IsToldPhase before now ranks u phase

-- what is told of each router
abbrev pub IsToldState : Network → Network → List ℕ → State → Type 0
IsToldState before now ranks state = (u : ℕ) → u < length before → IsToldPhase before now ranks u (state u)
