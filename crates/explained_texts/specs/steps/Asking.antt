-- A safe wave list of whose routers is asked whether they may stand one wave earlier.
use Rattle.std.specs.Prelude.{◌≡◌, ℕ, ◌+◌, ◌^◌, ◌<◌, ◌==◌, ◌&&◌, Bool, length}
use Rattle.order_core.specs.Rankings.{rank_of}
use Rattle.order_core.specs.Turns.{is_old}
use Rattle.order_core.specs.declared.turn.Turn.{Turn}
use Rattle.igp_theory.specs.Phases.{all_old, state_in}
use Rattle.loop_finder.specs.Faults.{Finding}
use Rattle.loop_finder.specs.Mixes.{Listing}
use Rattle.rib_mix.specs.Mixture.{migration_of}
use Rattle.explained_waves.specs.Reasons.{AreSoundRanks}
use Rattle.explained_texts.specs.AskedLists.{AskedList}

-- the migration is sound throughout the list, and the finder searches it from the start of all Old, with room for a timetable
pub record IsListAsked {O N : Type 0} (old : Listing O) (new : Listing N) (list : AskedList O N) (finding : Finding O N)
    (room : ℕ) : Type 0 where
  pub each : length list.ranks ≡ length list.mixture.net
  pub few : (u : ℕ) → rank_of list.ranks u + 1 < 2 ^ 32
  pub short : length list.ranks < 2 ^ 32
  pub sound : AreSoundRanks (migration_of old new list.mixture) list.ranks
  pub mixture_is : finding.mixture ≡ list.mixture
  pub start_is : state_in finding.start ≡ all_old
  pub ring_is : finding.ring ≡ list.ring
  pub room_is : room ≡ length list.mixture.net

-- whether a turn is router u's, and tagged Old
abbrev pub is_old_of : ℕ → Turn → Bool
is_old_of u turn = (turn.router == u) && is_old turn.tag
