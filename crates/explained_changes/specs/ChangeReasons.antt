-- Why a single change of a wave list isn't in the wave before its own: a loop that would arise there.
use Rattle.std.specs.Prelude.{◌≡◌, ℕ, ◌+◌, ◌<◌, ◌≤◌, List, Contains}
use Rattle.order_core.specs.Rankings.{rank_of}
use Rattle.order_core.specs.Turns.{old_routers, new_routers}
use Rattle.order_core.specs.declared.turn.Turn.{Turn}
use Rattle.igp_theory.specs.Changes.{first, second}
use Rattle.igp_theory.specs.Migrations.{Migration}
use Rattle.igp_theory.specs.TimetableLaws.{ArisesInWave}
use Rattle.igp_theory.specs.Timetables.{IsSoundThroughout, change_number, change_times}
use Rattle.plan_theory.specs.Ranked.{changes_ranked}
use Rattle.plan_theory.specs.WavesMeaning.{LoopFor}
use Rattle.explained_waves.specs.Reasons.{one_earlier}

-- a migration is sound throughout a list of ranks of single changes: the change of number i stands in wave `rank_of ranks i + 1`.
-- The list needn't be a ranking: a wave without a change has one state, that in which it begins
abbrev pub AreSoundChanges : Migration → List ℕ → Type 0
AreSoundChanges move ranks = IsSoundThroughout move (change_times ranks)

-- a change isn't the second one of a router whose first stands in no earlier wave: one wave earlier it doesn't come before that
abbrev pub IsBehindFirst : List ℕ → ℕ → Type 0
IsBehindFirst ranks i =
    (u : ℕ) → i ≡ change_number (second u) → rank_of ranks (change_number (first u)) < rank_of ranks i

-- the change of number i may stand one wave earlier: the migration is sound throughout that list too
abbrev pub ChangeMayBeEarlier : Migration → List ℕ → ℕ → Type 0
ChangeMayBeEarlier move ranks i = AreSoundChanges move (one_earlier ranks i)

-- why it may not: a loop of the network, each turn told by the change at which its router switches for the address. It arises in
-- the wave before the change's own once that stands there. The change's router is tagged New, and one tagged Old switches in that
-- wave, by the change `after`, so that the change has to come after it; none tagged Old switches in an earlier wave
pub record IsChangeReason (move : Migration) (ranks : List ℕ) (i address : ℕ) (turns : List Turn) : Type 0 where
  pub loops : LoopFor move (changes_ranked move) address turns
  pub arises : ArisesInWave move (change_times (one_earlier ranks i)) (rank_of ranks i) address ((changes_ranked move).ring turns)
  pub is_new : Contains (new_routers turns) i
  pub after : ℕ
  pub is_old : Contains (old_routers turns) after
  pub just_before : rank_of ranks after + 1 ≡ rank_of ranks i
  pub none_earlier : (k : ℕ) → Contains (old_routers turns) k → rank_of ranks i ≤ rank_of ranks k + 1
