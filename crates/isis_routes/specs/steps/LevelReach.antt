-- The least walks of both levels, by the number of the level among the zones of routes.
use Rattle.std.specs.Prelude.{ℕ, [], slice_index_or}
use Rattle.std.proofs.Common.{zero, suc}
use Rattle.walk_core.specs.Reach.{Reach}
use Rattle.isis_routes.specs.declared.level_walks.LevelWalks.{LevelWalks}

-- the least walks from router u: those of level 1 are numbered 0, and those of level 2 come after
abbrev pub level_reach : LevelWalks → ℕ → ℕ → Reach
level_reach walks u zero = slice_index_or walks.one.value u (record { distances = []; hops = [] })
level_reach walks u (suc zone) = slice_index_or walks.two.value u (record { distances = []; hops = [] })
