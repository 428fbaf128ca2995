-- Which phases the distances of a router's configurations show, the one from before a migration and the one of now.
use Rattle.std.specs.Prelude.{◌≡◌, ℕ, ◌<◌, ◌⊎◌, List, length, IsSome, IsTrue}
use Rattle.net_model.specs.Configuration.{Configuration}
use Rattle.net_model.specs.Network.{Network, HasConfiguration}
use Rattle.net_model.specs.declared.bounds.TheConstants.{ISIS_DISTANCE, MOST_DISTANCE}
use Rattle.order_core.specs.Rankings.{rank_of}
use Rattle.igp_theory.specs.Phases.{State, all_old}
use Rattle.igp_theory.specs.Timetables.{IsStateOf, router_times}
use Rattle.igp_theory.specs.declared.phase.Phase.{Phase}
use Rattle.igp_theory.specs.declared.phase.Phase.TheVariants.{Old, Middle, New}

-- the distance of IS-IS in a phase: with the first change it goes from 255 to 115
abbrev pub isis_distance_in : Phase → ℕ
isis_distance_in Old = MOST_DISTANCE
isis_distance_in Middle = ISIS_DISTANCE
isis_distance_in New = ISIS_DISTANCE

-- the distance of OSPF in a phase, from what it was before: with the second change it goes to 255
abbrev pub ospf_distance_in : ℕ → Phase → ℕ
ospf_distance_in before Old = before
ospf_distance_in before Middle = before
ospf_distance_in before New = MOST_DISTANCE

-- a configuration of before and one of now show a phase: each process that there is has the distance of the phase
pub record ShowPhase (c d : Configuration) (phase : Phase) : Type 0 where
  pub isis : IsTrue d.isis → d.distances.isis ≡ isis_distance_in phase
  pub ospf : IsSome d.process → d.distances.ospf ≡ ospf_distance_in c.distances.ospf phase

-- router u may be in a phase: its configurations show it
pub record MayBeIn (before now : Network) (u : ℕ) (phase : Phase) : Type 0 where
  pub one : Configuration
  pub its : Configuration
  pub before_is : HasConfiguration before u one
  pub now_is : HasConfiguration now u its
  pub shown : ShowPhase one its phase

-- a state that a run of a wave list leads to, in which each router may be
pub record IsShownState (before now : Network) (ranks : List ℕ) (state : State) : Type 0 where
  pub of_run : IsStateOf (length before) all_old (router_times all_old ranks) state
  pub shown : (u : ℕ) → u < length before → MayBeIn before now u (state u)

-- router u isn't done: it may be in some phase, and not in New
pub record IsNotDone (before now : Network) (u : ℕ) : Type 0 where
  pub phase : Phase
  pub may_be : MayBeIn before now u phase
  pub not_new : MayBeIn before now u New → ⊥

-- some router of an earlier wave than that of router u isn't done
pub record FollowsUndone (before now : Network) (ranks : List ℕ) (u : ℕ) : Type 0 where
  pub other : ℕ
  pub below : other < length before
  pub earlier : rank_of ranks other < rank_of ranks u
  pub not_done : IsNotDone before now other

-- the changes of router u can't be: it may be in no phase, or it has begun, and follows a router that isn't done
pub record IsAstray (before now : Network) (ranks : List ℕ) (u : ℕ) : Type 0 where
  pub router : u < length before
  pub why : ((phase : Phase) → MayBeIn before now u phase → ⊥) ⊎ ((MayBeIn before now u Old → ⊥) × FollowsUndone before now ranks u)
