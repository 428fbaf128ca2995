-- Why a router of a wave list isn't in the wave before its own: a loop that would arise there.
use Rattle.std.specs.Prelude.{◌≡◌, ℕ, ◌+◌, ◌-◌, ◌≤◌, List, slice_set, Contains}
use Rattle.order_core.specs.Rankings.{rank_of}
use Rattle.order_core.specs.Turns.{old_routers, new_routers}
use Rattle.order_core.specs.declared.turn.Turn.{Turn}
use Rattle.igp_theory.specs.Loops.{Fault, loop, IsLoop}
use Rattle.igp_theory.specs.Migrations.{Migration}
use Rattle.igp_theory.specs.TimetableLaws.{ArisesInWave}
use Rattle.igp_theory.specs.Timetables.{IsSoundThroughout, router_times}

-- a migration is sound throughout a list of ranks: router u stands in wave `rank_of ranks u + 1`. The list needn't be a
-- ranking: a wave without a router has one state, that in which it begins
abbrev pub AreSoundRanks : Migration → List ℕ → Type 0
AreSoundRanks move ranks = IsSoundThroughout move (router_times move.start ranks)

-- router v has this rank instead of its own, the others keep theirs
abbrev pub reranked : List ℕ → ℕ → ℕ → List ℕ
reranked ranks v rank = slice_set ranks v rank

-- router v stands one wave earlier. Its wave before has the number `rank_of ranks v`, counted from 1
abbrev pub one_earlier : List ℕ → ℕ → List ℕ
one_earlier ranks v = reranked ranks v (rank_of ranks v - 1)

-- router v may stand one wave earlier: the migration is sound throughout that list too
abbrev pub MayBeEarlier : Migration → List ℕ → ℕ → Type 0
MayBeEarlier move ranks v = AreSoundRanks move (one_earlier ranks v)

-- why it may not: a loop of the network, which arises in the wave before v's own once v stands there. In it v is tagged New,
-- and the router `after` of that wave is tagged Old, so v has to come after it; no router tagged Old stands in an earlier wave
pub record IsReason (move : Migration) (ranks : List ℕ) (v : ℕ) (fault : Fault) : Type 0 where
  pub address : ℕ
  pub ring : List Turn
  pub is : fault ≡ loop address ring
  pub is_loop : IsLoop move address ring
  pub arises : ArisesInWave move (router_times move.start (one_earlier ranks v)) (rank_of ranks v) address ring
  pub is_new : Contains (new_routers ring) v
  pub after : ℕ
  pub is_old : Contains (old_routers ring) after
  pub just_before : rank_of ranks after + 1 ≡ rank_of ranks v
  pub none_earlier : (u : ℕ) → Contains (old_routers ring) u → rank_of ranks v ≤ rank_of ranks u + 1
